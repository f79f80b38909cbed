-- Readings that go on only where something was found. Source: this project's own.
pub use Rattle.coin_facts.specs.Steps.{◌>>=◌, all_of, when}
