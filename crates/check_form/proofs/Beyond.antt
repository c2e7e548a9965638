-- Reading moves on: each part that is read ends behind where it starts. So no loop of the parser runs out of turns, and it reads as if it had no end.
use mathlib.Core.Path.{◌≡◌, refl}
use mathlib.Core.Bool.{Bool, true, false}
use Prim.Native.Nat.{ℕ, zero, suc, ◌+◌, ◌-◌, ◌<◌, ◌≤◌}
use native.Mathlib.Omega.{arith}
use lib.Dec.{eqb}
use Rattle.laws.proofs.Tests.{apart}
use Rattle.std.specs.Prelude.{if◌then◌else◌}
use Rattle.paper.specs.Sorts.{NOTHING}
use Rattle.paper.specs.Expressions.{level_of, is_literal, is_type, stands_before, parts}
use Rattle.std.specs.Prelude.{Ok, Err}
use Rattle.layout.specs.declared.rules.Breach.{Breach}
use Rattle.layout.specs.declared.rules.Rule.TheVariants.{NoForm, DeepNesting}
use Rattle.check_form.specs.Places.{Read, breach, ◌▸◌, turns, started_by, word, type_word, operand, chain_turn, chain, prefixed, level, expression_in}
use Rattle.paper.specs.Words.{word_limit}

-- ---- ends

abbrev pub Beyond : ℕ → Read → Type 0
Beyond lo r = (n : ℕ) → r ≡ Ok n → lo ≤ n

pub refuses : (lo : ℕ) (b : Breach) → Beyond lo (Err b)
refuses lo b n e = apart (cc)

pub ends : (lo m : ℕ) → lo ≤ m → Beyond lo (Ok m)
ends lo m h n e = let q : m ≡ n = cc in omega (arith, q)

pub sooner : {lo : ℕ} {r : Read} (low : ℕ) → low ≤ lo → Beyond lo r → Beyond low r
sooner low h g n e = omega (arith, g n e)

pub either : {lo : ℕ} {p q : Read} (b : Bool) → Beyond lo p → Beyond lo q → Beyond lo (if b then p else q)
either true f g = f
either false f g = g

pub follows : {lo mid : ℕ} {f : ℕ → Read} (r : Read) → Beyond mid r → ((n : ℕ) → mid ≤ n → Beyond lo (f n)) → Beyond lo (r ▸ f)
unfolding ◌▸◌
follows (Ok n) h g = g n (h n refl)
follows {lo} (Err b) h g = refuses lo b

-- what stands or moves on keeps what is behind
pub on : {lo : ℕ} {r : Read} {f : ℕ → Read} → Beyond lo r → ((n : ℕ) → Beyond n (f n)) → Beyond lo (r ▸ f)
on {lo} {r} {f} h g = follows r h (λ n l m e. omega (arith, g n m e))

pub strictly : {f : ℕ → Read} → ((n : ℕ) → Beyond (suc n) (f n)) → (n : ℕ) → Beyond n (f n)
strictly g n m e = omega (arith, g n m e)

pub same_after : {f g : ℕ → Read} {mid : ℕ} (r : Read) → Beyond mid r → ((n : ℕ) → mid ≤ n → f n ≡ g n) → (r ▸ f) ≡ (r ▸ g)
unfolding ◌▸◌
same_after (Ok n) h e = e n (h n refl)
same_after (Err b) h e = refl

-- ---- loops

pub turns-on : (turn : (ℕ → Read) → ℕ → Read) → ((again : ℕ → Read) → ((n : ℕ) → Beyond n (again n)) → (at : ℕ) → Beyond at (turn again at))
    → (p at : ℕ) → Beyond at (turns turn p at)
unfolding turns
turns-on turn h zero at = refuses at (breach NoForm at)
turns-on turn h (suc p) at = h (turns turn p) (turns-on turn h p) at

module _ (words : ℕ) where
  -- a turn goes on only where a word stands, and only behind it
  abbrev pub Local : ((ℕ → Read) → ℕ → Read) → Type 0
  Local turn = (f g : ℕ → Read) (at : ℕ) → (at < words → (n : ℕ) → at < n → f n ≡ g n) → turn f at ≡ turn g at

  same-turns : (turn : (ℕ → Read) → ℕ → Read) → Local turn → (p q at : ℕ) → words ≤ p + at → words ≤ q + at
      → turns turn (suc p) at ≡ turns turn (suc q) at
  unfolding turns
  same-turns turn l zero q at a b = l (turns turn zero) (turns turn q) at (λ h n i. absurd (omega arith))
  same-turns turn l (suc p) zero at a b = l (turns turn (suc p)) (turns turn zero) at (λ h n i. absurd (omega arith))
  same-turns turn l (suc p) (suc q) at a b =
      l (turns turn (suc p)) (turns turn (suc q)) at (λ h n i. same-turns turn l p q n (omega arith) (omega arith))

  pub endless : (turn : (ℕ → Read) → ℕ → Read) → Local turn → words ≤ word_limit → (at : ℕ) → turns turn parts at ≡ turn (turns turn parts) at
  unfolding turns
  endless turn l few at =
      l (turns turn word_limit) (turns turn parts) at (λ h n i. same-turns turn l (word_limit - 1) word_limit n (omega arith) (omega arith))

-- ---- lists of data and of routines

-- What such a list is made of: where no word stands none starts, and each is read from behind the word that starts it, by its sort.
pub record Kind (W : ℕ → ℕ) (starts : ℕ → Bool) (of : (sort : ℕ) → ℕ → Read) : Type 0 where
  pub none : starts NOTHING ≡ false
  pub on : (at : ℕ) → Beyond (suc at) (started_by W of at)

-- ---- words

module _ (W : ℕ → ℕ) where
  pub word_on : (s at : ℕ) → Beyond (suc at) (word W s at)
  unfolding word
  word_on s at = either (eqb (W at) s) (ends (suc at) (at + 1) (omega arith)) (refuses (suc at) (breach NoForm at))

  pub type-on : (at : ℕ) → Beyond (suc at) (type_word W at)
  unfolding type_word
  type-on at = either (is_type (W at)) (ends (suc at) (at + 1) (omega arith)) (refuses (suc at) (breach NoForm at))

  -- ---- expressions

  module _ (inner : ℕ → Read) (inner-on : (at : ℕ) → Beyond (suc at) (inner at)) where
    pub operand_on : (at : ℕ) → Beyond (suc at) (operand W inner at)
    unfolding operand
    operand_on at =
        either (eqb (W at) 1)
        (either (eqb (W (at + 1)) 8)
        (on (sooner (suc at) (omega arith) (inner-on (at + 2))) (strictly (word_on 9)))
        (ends (suc at) (at + 1) (omega arith)))
        (either (eqb (W at) 6)
        (on (sooner (suc at) (omega arith) (inner-on (at + 1))) (strictly (word_on 7)))
        (either (is_literal (W at)) (ends (suc at) (at + 1) (omega arith)) (refuses (suc at) (breach NoForm at))))

    chain-turn-on : (j : ℕ) (sub : ℕ → Read) → ((at : ℕ) → Beyond (suc at) (sub at))
        → (again : ℕ → Read) → ((n : ℕ) → Beyond n (again n)) → (at : ℕ) → Beyond at (chain_turn W j sub again at)
    unfolding chain_turn
    chain-turn-on j sub s again g at =
        either (eqb (level_of (W at)) j)
        (either (eqb j 3) (sooner at (omega arith) (s (at + 1))) (on (sooner at (omega arith) (s (at + 1))) g))
        (ends at at (omega arith))

    pub chain-on : (j : ℕ) (sub : ℕ → Read) → ((at : ℕ) → Beyond (suc at) (sub at)) → (at : ℕ) → Beyond at (chain W j sub at)
    unfolding chain
    chain-on j sub s at = turns-on (chain_turn W j sub) (chain-turn-on j sub s) parts at

    pub level-on : (j at : ℕ) → Beyond (suc at) (level W inner j at)
    unfolding level prefixed
    level-on zero at = operand_on at
    level-on (suc j) at =
        on (either (stands_before (suc j) (W at)) (sooner (suc at) (omega arith) (level-on j (at + 1))) (level-on j at))
        (chain-on (suc j) (level W inner j) (level-on j))

  pub nested-on : (d at : ℕ) → Beyond (suc at) (expression_in W d at)
  unfolding expression_in
  nested-on zero at = refuses (suc at) (breach DeepNesting (at - 1))
  nested-on (suc d) at = level-on (expression_in W d) (nested-on d) 5 at
