-- What is asked of a name's words, or of its number, follows from what is known of them; and words that are there stay where a routine gets more.
use Prim.Native.Nat.{ℕ, ◌<◌, ◌≤◌}
use native.Mathlib.Omega.{arith}
use Rattle.paper.specs.Terms.{Ref, of_module, of_routine}
use Rattle.check_expressions.specs.Known.{InRoom, HeldSlots, Held, nothing, words, number, Holds}

pub holds : {F F' : HeldSlots → Type 0} {G G' : ℕ → Type 0} (a : Held) → ((w : HeldSlots) → F w → F' w) → ((k : ℕ) → G k → G' k) → Holds F G a → Holds F' G' a
holds nothing f g h = h
holds (words w) f g h = f w h
holds (number k) f g h = g k h

pub room-more : (m n q : ℕ) (r : Ref) (size : ℕ) → n ≤ q → InRoom m n r size → InRoom m q r size
unfolding InRoom
room-more m n q (of_module k) size h a = a
room-more m n q (of_routine k) size h a = omega arith

pub room-one : (m n : ℕ) (r : Ref) (size : ℕ) → 0 < size → InRoom m n r size → InRoom m n r 1
unfolding InRoom
room-one m n (of_module k) size s a = omega arith
room-one m n (of_routine k) size s a = omega arith
