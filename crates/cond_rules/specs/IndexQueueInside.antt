-- What the heap of a queue of indexes stands for, and that its least index is on top. Source: this project's own.
use Rattle.std.specs.Prelude.{ℕ, ◌-◌, map}
use Rattle.std.specs.BinaryHeap.{heap_items, heap_len, heap_capacity, IsHeap}
use Rattle.std.specs.Ordering.{nat_cmp}
use Rattle.cond_rules.specs.IndexQueue.{IndexQueue}
use Rattle.cond_rules.specs.declared.index_queue.IndexQueue.TheInside.{Inside}

abbrev pub seen : Inside → IndexQueue
seen queue = record {
  indexes = map (λ item. item.0) (heap_items queue.heap);
  room = heap_capacity queue.heap - heap_len queue.heap;
}

-- the lower index is the greater element
abbrev pub IsInOrder : Inside → Type 0
IsInOrder queue = IsHeap (λ a b. nat_cmp b.0 a.0) (heap_items queue.heap)
