-- The definitions at known values.
use Rattle.std.specs.Prelude.{◌≡◌, pos, negsuc, [], ◌∷◌, Some, refl}
use Rattle.clvm_spec.specs.Tree.{nil}
use Rattle.clvm_spec.specs.Reading.{tree_of, tree_at_front, head_at, Cut, LongSpelling, BadPrefix, HasTree, HasFlaw, front_read, IsFlawed, IsLonger, whole_read}
use Rattle.clvm_spec.specs.Numbers.{number, shortest_atom, without_sign_bytes}

reads_80 : tree_of (0x80 ∷ []) ≡ Some nil
unfolding head_at tree_at_front
reads_80 = refl

reads_8101 : whole_read (0x81 ∷ 1 ∷ []) ≡ IsFlawed LongSpelling 0
unfolding head_at tree_at_front
reads_8101 = refl

reads_ff01 : whole_read (0xff ∷ 1 ∷ []) ≡ IsFlawed Cut 2
unfolding head_at tree_at_front
reads_ff01 = refl

reads_fe : whole_read (0xfe ∷ []) ≡ IsFlawed BadPrefix 0
unfolding head_at tree_at_front
reads_fe = refl

reads_8080 : whole_read (0x80 ∷ 0x80 ∷ []) ≡ IsLonger 1
unfolding head_at tree_at_front
reads_8080 = refl

front_8080 : (front_read (0x80 ∷ 0x80 ∷ []) ≡ HasTree nil 1) × (front_read (0xff ∷ 0x80 ∷ 0xfe ∷ []) ≡ HasFlaw BadPrefix 2)
unfolding head_at tree_at_front
front_8080 = (refl, refl)

number_81f9 : number (0xf9 ∷ []) ≡ negsuc 6
number_81f9 = refl

short_1000 : shortest_atom (pos 1000) ≡ 3 ∷ 0xe8 ∷ []
unfolding without_sign_bytes shortest_atom
short_1000 = refl

short_128 : shortest_atom (pos 128) ≡ 0 ∷ 128 ∷ []
unfolding without_sign_bytes shortest_atom
short_128 = refl

short_-1 : shortest_atom (negsuc 0) ≡ 255 ∷ []
unfolding without_sign_bytes shortest_atom
short_-1 = refl

short_0 : shortest_atom (pos 0) ≡ []
unfolding without_sign_bytes shortest_atom
short_0 = refl
