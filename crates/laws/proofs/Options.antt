-- What is asked of a thing only where it is there.
use mathlib.Core.Option.{Option, none, some}
use Rattle.laws.specs.Options.{WhereSome}

pub where-some : {A : Type 0} {F G : A → Type 0} (o : Option A) → ((a : A) → F a → G a) → WhereSome F o → WhereSome G o
where-some none f h = h
where-some (some a) f h = f a h

-- two facts of it
pub where-both : {A : Type 0} {F G H : A → Type 0} (o : Option A) → ((a : A) → F a → G a → H a) → WhereSome F o → WhereSome G o → WhereSome H o
where-both none f h g = h
where-both (some a) f h g = f a h g
