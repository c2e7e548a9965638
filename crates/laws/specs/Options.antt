-- What is asked of a thing only where it is there.
use Rattle.std.proofs.Math.Option.{Option, none, some}

abbrev pub WhereSome : {A : Type 0} → (A → Type 0) → Option A → Type 0
WhereSome F none = Unit {0}
WhereSome F (some a) = F a
