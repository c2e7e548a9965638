-- A derivation taken apart by the word at hand: what a walk over the words knows after each of its tests.
use mathlib.Core.Path.{◌≡◌, refl, sym, ap, ap₂, subst, ◌∙◌}
use mathlib.Core.Bool.{Bool, true, false}
use mathlib.Core.List.{List, [], ◌∷◌}
use mathlib.Core.Option.{Option, none, some}
use Prim.Native.Nat.{ℕ, ◌+◌, ◌-◌, ◌<◌}
use native.Mathlib.Omega.{arith}
use lib.Dec.{eqb}
use borrow.Author.Tests.{ne_eqb}
use Rattle.laws.proofs.Tests.{false-true}
use Rattle.paper.specs.Sorts.{NAME, STRING, CONST, FUNC, close_brace, close_paren, open_brace, open_paren, comma, semicolon, becomes, colon, backslash, CASE, DEFAULT, DO, ELSE, ELSEIF, ENDFOR, ENDFUNC}
use Rattle.paper.specs.Sorts.{ENDIF, ENDPROC, ENDTEST, ENDWHILE, EXIT, FOR, IF, PROC, RAISE, RETRY, RETURN, STEP, TEST, THEN, TPREADNUM, TPWRITE, TRYNEXT, VAR, WHILE}
use Rattle.paper.specs.Trees.{variable_data, initial_data, array_data, constant_data, Expr, Target, Simple, assign, assign_call, call, returns, raises, exits, retries, tries_next, writes, reads, Statement}
use Rattle.paper.specs.Trees.{Statements, Arms, Cases, simple, compact_if, full_if, for, while, test, empty, ◌then◌, no_arm, arm, no_case, case, Content, RoutineList}
use Rattle.paper.specs.Expressions.{nestings, is_type, starts_simple, starts_statement}
use Rattle.grammar.specs.Form.{SeparatedAt, last_one, one_more, ClosedAt, closed-at-once, closed-later, RepeatedAt, none-starts, one-starts}
use Rattle.grammar.specs.Form.{ExprAt, ExprsAt, ArgumentsAt, IndexAt, no_index, in-braces, TargetAt, OptionalAt, no_value, a-value, NumberAt, no_number, a-number}
use Rattle.grammar.specs.Form.{SimpleAt, assigning, assigning-call, calling, returning, raising, exiting, retrying, trying-next, writing, reading, StepAt, no_step, a-step, ForHeadAt}
use Rattle.grammar.specs.Form.{StatementAt, plain, compact, full, counting, looping, testing, ListAt, ended, begun, ArmsAt, last-arm, more-arms, ElseAt, no-else, an-else, CasesAt, no-more-cases, one-case, DefaultAt, no_default, a-default}
use Rattle.grammar.specs.Form.{ContentAt, no-content, initial, sized, constant, RoutineListAt, ListBehindAt, no-list, a-list, HeadAt, a-proc, a-func}

-- one of two types, by a test
abbrev pub Fork : Bool → Type 0 → Type 0 → Type 0
Fork true P Q = P
Fork false P Q = Q

second : (b : Bool) (P Q : Type 0) → b ≡ false → Q → Fork b P Q
second true P Q e q = false-true (sym e)
second false P Q e q = q

pub not_first : (b : Bool) (P Q : Type 0) → b ≡ false → Fork b P Q → Q
not_first true P Q e q = false-true (sym e)
not_first false P Q e q = q

-- ---- sequences
module _ (W : ℕ → ℕ) {A : Type 0} (One : A → (at to : ℕ) → Type 0) where
  -- the first of some, and what is left after the word behind it
  pub record FirstOf (l : List A) (at to : ℕ) : Type 0 where
    pub a : A
    pub rest : List A
    pub n : ℕ
    pub is : l ≡ a ∷ rest
    pub one : One a at n
    pub more : W n ≡ comma → SeparatedAt W One rest (n + 1) to
    pub done : ¬ (W n ≡ comma) → (rest ≡ []) × (to ≡ n)

  pub separated_first : {l : List A} {at to : ℕ} → SeparatedAt W One l at to → FirstOf l at to
  separated_first (last_one {a = a} {to = to} k f) = record { a = a; rest = []; n = to; is = refl; one = k; more = λ c. absurd (f c); done = λ c. (refl, refl) }
  separated_first (one_more {a = a} {r = r} {n = n} k c h) = record { a = a; rest = r; n = n; is = refl; one = k; more = λ _. h; done = λ f. absurd (f c) }

  pub closed_none : {closing : ℕ} {l : List A} {at to : ℕ} → ClosedAt W One closing l at to → W at ≡ closing → (l ≡ []) × (to ≡ at)
  closed_none (closed-at-once c e) q = (refl, e)
  closed_none (closed-later f h) q = absurd (f q)

  pub closed_some : {closing : ℕ} {l : List A} {at to : ℕ} → ClosedAt W One closing l at to → ¬ (W at ≡ closing) → SeparatedAt W One l at to
  closed_some (closed-at-once c e) q = absurd (q c)
  closed_some (closed-later f h) q = h

  pub record NextOf (starts : ℕ → Bool) (l : List A) (at to : ℕ) : Type 0 where
    pub a : A
    pub rest : List A
    pub n : ℕ
    pub is : l ≡ a ∷ rest
    pub one : One a at n
    pub more : RepeatedAt W starts One rest n to

  pub repeated-next : {starts : ℕ → Bool} {l : List A} {at to : ℕ} → RepeatedAt W starts One l at to → starts (W at) ≡ true → NextOf starts l at to
  repeated-next {starts} {at = at} (none-starts s e) q = false-true (sym s ∙ ap (λ (i : ℕ). starts (W i)) e ∙ q)
  repeated-next (one-starts {a = a} {r = r} {n = n} s k h) q = record { a = a; rest = r; n = n; is = refl; one = k; more = h }

  pub repeated-none : {starts : ℕ → Bool} {l : List A} {at to : ℕ} → RepeatedAt W starts One l at to → starts (W at) ≡ false → (l ≡ []) × (to ≡ at)
  repeated-none (none-starts s e) q = (refl, e)
  repeated-none (one-starts s k h) q = false-true (sym q ∙ s)

  pub repeated-ends : {starts : ℕ → Bool} {l : List A} {at to : ℕ} → RepeatedAt W starts One l at to → starts (W to) ≡ false
  repeated-ends (none-starts s e) = s
  repeated-ends (one-starts s k h) = repeated-ends h

module _ (W : ℕ → ℕ) (E : (d at : ℕ) → Expr → (to : ℕ) → Type 0) where
  -- ---- targets and what is optional
  -- the index of a target
  pub record InBraces (o : Option Expr) (at to : ℕ) : Type 0 where
    pub e : Expr
    pub n : ℕ
    pub is : o ≡ some e
    pub inside : E nestings (at + 1) e n
    pub closes : W n ≡ close_brace
    pub after : to ≡ n + 1

  pub index-some : {o : Option Expr} {at to : ℕ} → IndexAt W E o at to → W at ≡ open_brace → InBraces o at to
  index-some (no_index f e) q = absurd (f q)
  index-some (in-braces {e = e} {n = n} b k c z) q = record { e = e; n = n; is = refl; inside = k; closes = c; after = z }

  pub index-none : {o : Option Expr} {at to : ℕ} → IndexAt W E o at to → ¬ (W at ≡ open_brace) → (o ≡ none) × (to ≡ at)
  index-none (no_index f e) q = (refl, e)
  index-none (in-braces b k c z) q = absurd (q b)

  -- an expression that is there, from a place on
  pub record Given (o : Option Expr) (at to : ℕ) : Type 0 where
    pub e : Expr
    pub is : o ≡ some e
    pub stands : ExprAt W E e at to

  pub optional-none : {o : Option Expr} {at to : ℕ} → OptionalAt W E o at to → W at ≡ semicolon → (o ≡ none) × (to ≡ at)
  optional-none (no_value s e) q = (refl, e)
  optional-none (a-value f k) q = absurd (f q)

  pub optional-some : {o : Option Expr} {at to : ℕ} → OptionalAt W E o at to → ¬ (W at ≡ semicolon) → Given o at to
  optional-some (no_value s e) q = absurd (q s)
  optional-some (a-value {e = e} f k) q = record { e = e; is = refl; stands = k }

  pub number-none : {o : Option Expr} {at to : ℕ} → NumberAt W E o at to → ¬ (W at ≡ backslash) → (o ≡ none) × (to ≡ at)
  number-none (no_number f e) q = (refl, e)
  number-none (a-number b n c k) q = absurd (q b)

  pub number-some : {o : Option Expr} {at to : ℕ} → NumberAt W E o at to → W at ≡ backslash → Given o (at + 3) to
  number-some (no_number f e) q = absurd (f q)
  number-some (a-number {e = e} b n c k) q = record { e = e; is = refl; stands = k }

  pub step-none : {o : Option Expr} {at to : ℕ} → StepAt W E o at to → ¬ (W at ≡ STEP) → (o ≡ none) × (to ≡ at)
  step-none (no_step f e) q = (refl, e)
  step-none (a-step s k) q = absurd (q s)

  pub step-some : {o : Option Expr} {at to : ℕ} → StepAt W E o at to → W at ≡ STEP → Given o (at + 1) to
  step-some (no_step f e) q = absurd (f q)
  step-some (a-step {e = e} s k) q = record { e = e; is = refl; stands = k }

  -- ---- simple statements
  -- what stands behind a target
  pub data Behind : ℕ → Type 0 where
    behind-name : {s : ℕ} → s ≡ becomes → Behind s
    behind-brace : {s : ℕ} → s ≡ open_brace → Behind s

  pub target-behind : {t : Target} {at n : ℕ} → TargetAt W E t at n → W n ≡ becomes → Behind (W (at + 1))
  target-behind {t} {at} {n} h b = by h.index b
    where
      by : {o : Option Expr} → IndexAt W E o (at + 1) n → W n ≡ becomes → Behind (W (at + 1))
      by (no_index f e) b = behind-name (sym (ap W e) ∙ b)
      by (in-braces o k c z) b = behind-brace o

  not_behind : {A : Type 0} {s : ℕ} → Behind s → ¬ (s ≡ becomes) → ¬ (s ≡ open_brace) → A
  not_behind (behind-name e) f g = absurd (f e)
  not_behind (behind-brace e) f g = absurd (g e)

  -- "`target := e;`, `target := f(args);`"
  pub record CallSide (s : Simple) (t : Target) (n to : ℕ) : Type 0 where
    pub es : List Expr
    pub m : ℕ
    pub is : s ≡ assign_call t (n + 1) es
    pub arguments : ArgumentsAt W E close_paren es (n + 3) m
    pub closes : W m ≡ close_paren
    pub after : to ≡ m + 1

  pub record ValueSide (s : Simple) (t : Target) (n to : ℕ) : Type 0 where
    pub e : Expr
    pub is : s ≡ assign t e
    pub value : ExprAt W E e (n + 1) to

  pub record Assigns (s : Simple) (at to : ℕ) : Type 0 where
    pub t : Target
    pub n : ℕ
    pub target : TargetAt W E t at n
    pub becomes : W n ≡ becomes
    pub call_side : W (n + 1) ≡ NAME → W (n + 2) ≡ open_paren → CallSide s t n to
    pub value_side : (W (n + 1) ≡ NAME → W (n + 2) ≡ open_paren → ⊥) → ValueSide s t n to

  -- "`p args;`"
  pub record Calls (s : Simple) (at to : ℕ) : Type 0 where
    pub es : List Expr
    pub is : s ≡ call at es
    pub arguments : ArgumentsAt W E semicolon es (at + 1) to

  -- "`RETURN [e];`, `RAISE [e];`"
  pub record WithOptional (make : ℕ → Option Expr → Simple) (s : Simple) (at to : ℕ) : Type 0 where
    pub e : Option Expr
    pub is : s ≡ make at e
    pub value : OptionalAt W E e (at + 1) to

  -- "`TPWrite "s" [\Num:=e];`"
  pub record Writes (s : Simple) (at to : ℕ) : Type 0 where
    pub e : Option Expr
    pub is : s ≡ writes at (at + 1) e
    pub text : W (at + 1) ≡ STRING
    pub number : NumberAt W E e (at + 2) to

  -- "`TPReadNum target, "s";`"
  pub record Reads (s : Simple) (at to : ℕ) : Type 0 where
    pub t : Target
    pub n : ℕ
    pub is : s ≡ reads at t (n + 1)
    pub target : TargetAt W E t (at + 1) n
    pub comma : W n ≡ comma
    pub text : W (n + 1) ≡ STRING
    pub after : to ≡ n + 2

  -- a name and then := or {, or neither
  pub record ByName (s : Simple) (at to : ℕ) : Type 0 where
    pub assigns : Behind (W (at + 1)) → Assigns s at to
    pub calls : ¬ (W (at + 1) ≡ becomes) → ¬ (W (at + 1) ≡ open_brace) → Calls s at to

  -- a word that is a statement by itself
  pub record Alone (is : ℕ → Simple) (s : Simple) (at to : ℕ) : Type 0 where
    pub alone : s ≡ is at
    pub after : to ≡ at + 1

  -- by the first word
  abbrev pub SimpleBy : (sort : ℕ) → Simple → (at to : ℕ) → Type 0
  SimpleBy w s at to =
      Fork (eqb w NAME) (ByName s at to) (
      Fork (eqb w RETURN) (WithOptional returns s at to) (
      Fork (eqb w RAISE) (WithOptional raises s at to) (
      Fork (eqb w EXIT) (Alone exits s at to) (
      Fork (eqb w RETRY) (Alone retries s at to) (
      Fork (eqb w TRYNEXT) (Alone tries_next s at to) (
      Fork (eqb w TPWRITE) (Writes s at to) (
      Fork (eqb w TPREADNUM) (Reads s at to) ⊥)))))))

  module _ {at to : ℕ} where
    named_by : {s : Simple} → W at ≡ NAME → ByName s at to → SimpleBy (W at) s at to
    named_by {s} a h = subst (λ (w : ℕ). SimpleBy w s at to) (sym a) h

    pub simple-by : {s : Simple} → SimpleAt W E s at to → SimpleBy (W at) s at to
    simple-by (assigning {t = t} {e = e} {n = n} h b f k) =
        named_by h.name (record {
          assigns = λ _. record { t = t; n = n; target = h; becomes = b; call_side = λ a o. absurd (f a o); value_side = λ _. record { e = e; is = refl; value = k } };
          calls = λ f g. not_behind (target-behind h b) f g;
        })
    simple-by (assigning-call {t = t} {f = f} {es = es} {n = n} {m = m} h b i a o k c z) =
        named_by h.name (record {
          assigns = λ _. record { t = t; n = n; target = h; becomes = b; call_side = λ _ _. record { es = es; m = m; is = ap (λ (j : ℕ). assign_call t j es) i; arguments = k; closes = c; after = z }; value_side = λ f. absurd (f a o) };
          calls = λ f g. not_behind (target-behind h b) f g;
        })
    simple-by (calling {es = es} i a f g k) =
        named_by a (record { assigns = λ w. not_behind w f g; calls = λ _ _. record { es = es; is = ap (λ (j : ℕ). call j es) i; arguments = k } })
    simple-by (returning {i = j} {e = e} i a k) = subst (λ (w : ℕ). SimpleBy w (returns j e) at to) (sym a) (record { e = e; is = ap (λ (j : ℕ). returns j e) i; value = k })
    simple-by (raising {i = j} {e = e} i a k) = subst (λ (w : ℕ). SimpleBy w (raises j e) at to) (sym a) (record { e = e; is = ap (λ (j : ℕ). raises j e) i; value = k })
    simple-by (exiting {i = j} i a z) = subst (λ (w : ℕ). SimpleBy w (exits j) at to) (sym a) (record { alone = ap exits i; after = z })
    simple-by (retrying {i = j} i a z) = subst (λ (w : ℕ). SimpleBy w (retries j) at to) (sym a) (record { alone = ap retries i; after = z })
    simple-by (trying-next {i = j} i a z) = subst (λ (w : ℕ). SimpleBy w (tries_next j) at to) (sym a) (record { alone = ap tries_next i; after = z })
    simple-by (writing {i = x} {s = y} {e = e} i a j s k) =
        subst (λ (w : ℕ). SimpleBy w (writes x y e) at to) (sym a) (record { e = e; is = ap₂ (λ (u v : ℕ). writes u v e) i j; text = s; number = k })
    simple-by (reading {i = x} {s = y} {t = t} {n = n} i a h c j s z) =
        subst (λ (w : ℕ). SimpleBy w (reads x t y) at to) (sym a) (record { t = t; n = n; is = ap₂ (λ (u v : ℕ). reads u t v) i j; target = h; comma = c; text = s; after = z })

    module _ {s : Simple} (h : SimpleAt W E s at to) where
      by-sort : (w : ℕ) → W at ≡ w → SimpleBy w s at to
      by-sort w q = subst (λ (v : ℕ). SimpleBy v s at to) q (simple-by h)

      pub simple-name : W at ≡ NAME → ByName s at to
      simple-name q = by-sort NAME q

      pub simple-return : W at ≡ RETURN → WithOptional returns s at to
      simple-return q = by-sort RETURN q

      pub simple-raise : W at ≡ RAISE → WithOptional raises s at to
      simple-raise q = by-sort RAISE q

      pub simple-exit : W at ≡ EXIT → Alone exits s at to
      simple-exit q = by-sort EXIT q

      pub simple-retry : W at ≡ RETRY → Alone retries s at to
      simple-retry q = by-sort RETRY q

      pub simple-trynext : W at ≡ TRYNEXT → Alone tries_next s at to
      simple-trynext q = by-sort TRYNEXT q

      pub simple-tpwrite : W at ≡ TPWRITE → Writes s at to
      simple-tpwrite q = by-sort TPWRITE q

      pub simple-tpreadnum : W at ≡ TPREADNUM → Reads s at to
      simple-tpreadnum q = by-sort TPREADNUM q

  starts_by : (i w : ℕ) → W i ≡ w → starts_simple w ≡ true → starts_simple (W i) ≡ true
  starts_by i w e h = ap starts_simple e ∙ h

  pub simple-starts : {s : Simple} {at to : ℕ} → SimpleAt W E s at to → starts_simple (W at) ≡ true
  unfolding starts_simple
  simple-starts {at = at} (assigning h b f k) = starts_by at NAME h.name refl
  simple-starts {at = at} (assigning-call h b i a o k c z) = starts_by at NAME h.name refl
  simple-starts {at = at} (calling i a f g k) = starts_by at NAME a refl
  simple-starts {at = at} (returning i a k) = starts_by at RETURN a refl
  simple-starts {at = at} (raising i a k) = starts_by at RAISE a refl
  simple-starts {at = at} (exiting i a z) = starts_by at EXIT a refl
  simple-starts {at = at} (retrying i a z) = starts_by at RETRY a refl
  simple-starts {at = at} (trying-next i a z) = starts_by at TRYNEXT a refl
  simple-starts {at = at} (writing i a j s k) = starts_by at TPWRITE a refl
  simple-starts {at = at} (reading i a h c j s z) = starts_by at TPREADNUM a refl

  -- ---- statements
  -- a simple statement with its semicolon
  pub record Plain (s : Statement) (at to : ℕ) : Type 0 where
    pub simply : Simple
    pub n : ℕ
    pub is : s ≡ simple simply
    pub stands : SimpleAt W E simply at n
    pub ends : W n ≡ semicolon
    pub after : to ≡ n + 1

  -- a compact IF from behind its condition on
  pub record CompactIf (s : Statement) (e : Expr) (at n to : ℕ) : Type 0 where
    pub simply : Simple
    pub m : ℕ
    pub is : s ≡ compact_if at e simply
    pub stands : SimpleAt W E simply n m
    pub ends : W m ≡ semicolon
    pub after : to ≡ m + 1

  -- a full one from its first THEN on
  pub record FullIf (d : ℕ) (s : Statement) (e : Expr) (at n to : ℕ) : Type 0 where
    pub b : Statements
    pub rest : Arms
    pub other : Statements
    pub m : ℕ
    pub else_at : ℕ
    pub end : ℕ
    pub deep : 0 < d
    pub is : s ≡ full_if at (arm e b rest) other
    pub list : ListAt W E (d - 1) b (n + 1) m
    pub more : W m ≡ ELSEIF → ArmsAt W E (d - 1) rest (m + 1) else_at
    pub last : ¬ (W m ≡ ELSEIF) → (rest ≡ no_arm) × (else_at ≡ m)
    pub otherwise : ElseAt W E (d - 1) other else_at end
    pub ends : W end ≡ ENDIF
    pub after : to ≡ end + 1

  pub record IsIf (d : ℕ) (s : Statement) (at to : ℕ) : Type 0 where
    pub e : Expr
    pub n : ℕ
    pub condition : ExprAt W E e (at + 1) n
    pub compact : ¬ (W n ≡ THEN) → CompactIf s e at n to
    pub full : W n ≡ THEN → FullIf d s e at n to

  pub record IsFor (d : ℕ) (s : Statement) (at to : ℕ) : Type 0 where
    pub a : Expr
    pub b : Expr
    pub c : Option Expr
    pub body : Statements
    pub do_at : ℕ
    pub end : ℕ
    pub deep : 0 < d
    pub is : s ≡ for at (at + 1) a b c body end
    pub head : ForHeadAt W E (at + 1) a b c at do_at
    pub list : ListAt W E (d - 1) body (do_at + 1) end
    pub ends : W end ≡ ENDFOR
    pub after : to ≡ end + 1

  pub record IsWhile (d : ℕ) (s : Statement) (at to : ℕ) : Type 0 where
    pub e : Expr
    pub body : Statements
    pub do_at : ℕ
    pub end : ℕ
    pub deep : 0 < d
    pub is : s ≡ while at e body
    pub condition : ExprAt W E e (at + 1) do_at
    pub do_word : W do_at ≡ DO
    pub list : ListAt W E (d - 1) body (do_at + 1) end
    pub ends : W end ≡ ENDWHILE
    pub after : to ≡ end + 1

  pub record IsTest (d : ℕ) (s : Statement) (at to : ℕ) : Type 0 where
    pub e : Expr
    pub c : Cases
    pub default : Statements
    pub n : ℕ
    pub m : ℕ
    pub end : ℕ
    pub deep : 0 < d
    pub is : s ≡ test at e c default
    pub selector : ExprAt W E e (at + 1) n
    pub cases : CasesAt W E (d - 1) c n m
    pub otherwise : DefaultAt W E (d - 1) default m end
    pub ends : W end ≡ ENDTEST
    pub after : to ≡ end + 1

  -- ---- the parts of compound statements
  -- the first arm, and what is left after its list
  pub record FirstArm (d : ℕ) (a : Arms) (at to : ℕ) : Type 0 where
    pub e : Expr
    pub b : Statements
    pub rest : Arms
    pub n : ℕ
    pub m : ℕ
    pub is : a ≡ arm e b rest
    pub condition : ExprAt W E e at n
    pub then_word : W n ≡ THEN
    pub list : ListAt W E d b (n + 1) m
    pub more : W m ≡ ELSEIF → ArmsAt W E d rest (m + 1) to
    pub last : ¬ (W m ≡ ELSEIF) → (rest ≡ no_arm) × (to ≡ m)

  pub arms-first : {d : ℕ} {a : Arms} {at to : ℕ} → ArmsAt W E d a at to → FirstArm d a at to
  arms-first (last-arm {e = e} {b = b} {n = n} {to = to} k t l f) =
      record { e = e; b = b; rest = no_arm; n = n; m = to; is = refl; condition = k; then_word = t; list = l; more = λ c. absurd (f c); last = λ c. (refl, refl) }
  arms-first (more-arms {e = e} {b = b} {r = r} {n = n} {m = m} k t l c h) =
      record { e = e; b = b; rest = r; n = n; m = m; is = refl; condition = k; then_word = t; list = l; more = λ _. h; last = λ f. absurd (f c) }

  pub else-some : {d : ℕ} {o : Statements} {at to : ℕ} → ElseAt W E d o at to → W at ≡ ELSE → ListAt W E d o (at + 1) to
  else-some (no-else f e) q = absurd (f q)
  else-some (an-else c h) q = h

  pub else-none : {d : ℕ} {o : Statements} {at to : ℕ} → ElseAt W E d o at to → ¬ (W at ≡ ELSE) → (o ≡ empty) × (to ≡ at)
  else-none (no-else f e) q = (refl, e)
  else-none (an-else c h) q = absurd (q c)

  pub record FirstCase (d : ℕ) (c : Cases) (at to : ℕ) : Type 0 where
    pub cs : List Expr
    pub b : Statements
    pub rest : Cases
    pub n : ℕ
    pub m : ℕ
    pub is : c ≡ case cs b rest
    pub constants : ExprsAt W E cs (at + 1) n
    pub colon : W n ≡ colon
    pub list : ListAt W E d b (n + 1) m
    pub more : CasesAt W E d rest m to

  pub cases-first : {d : ℕ} {c : Cases} {at to : ℕ} → CasesAt W E d c at to → W at ≡ CASE → FirstCase d c at to
  cases-first (no-more-cases f e) q = absurd (f (ap W e ∙ q))
  cases-first (one-case {cs = cs} {b = b} {r = r} {n = n} {m = m} c k o l h) q = record { cs = cs; b = b; rest = r; n = n; m = m; is = refl; constants = k; colon = o; list = l; more = h }

  pub cases_none : {d : ℕ} {c : Cases} {at to : ℕ} → CasesAt W E d c at to → ¬ (W at ≡ CASE) → (c ≡ no_case) × (to ≡ at)
  cases_none (no-more-cases f e) q = (refl, e)
  cases_none (one-case c k o l h) q = absurd (q c)

  pub default-some : {d : ℕ} {o : Statements} {at to : ℕ} → DefaultAt W E d o at to → W at ≡ DEFAULT → ListAt W E d o (at + 2) to
  default-some (no_default f e) q = absurd (f q)
  default-some (a-default c i h) q = h

  pub default_none : {d : ℕ} {o : Statements} {at to : ℕ} → DefaultAt W E d o at to → ¬ (W at ≡ DEFAULT) → (o ≡ empty) × (to ≡ at)
  default_none (no_default f e) q = (refl, e)
  default_none (a-default c i h) q = absurd (q c)

  pub record FirstStatement (d : ℕ) (l : Statements) (at to : ℕ) : Type 0 where
    pub s : Statement
    pub rest : Statements
    pub n : ℕ
    pub is : l ≡ s then rest
    pub stands : StatementAt W E d s at n
    pub more : ListAt W E d rest n to

  pub list-first : {d : ℕ} {l : Statements} {at to : ℕ} → ListAt W E d l at to → starts_statement (W at) ≡ true → FirstStatement d l at to
  list-first (ended s e) q = false-true (sym s ∙ ap (λ (i : ℕ). starts_statement (W i)) e ∙ q)
  list-first (begun {s = s} {r = r} {n = n} t k h) q = record { s = s; rest = r; n = n; is = refl; stands = k; more = h }

  pub list-none : {d : ℕ} {l : Statements} {at to : ℕ} → ListAt W E d l at to → starts_statement (W at) ≡ false → (l ≡ empty) × (to ≡ at)
  list-none (ended s e) q = (refl, e)
  list-none (begun t k h) q = false-true (sym q ∙ t)

  pub list-ends : {d : ℕ} {l : Statements} {at to : ℕ} → ListAt W E d l at to → starts_statement (W to) ≡ false
  list-ends (ended s e) = s
  list-ends (begun t k h) = list-ends h

  -- ---- a statement by its first word
  abbrev pub StatementBy : (sort d : ℕ) → Statement → (at to : ℕ) → Type 0
  StatementBy w d s at to =
      Fork (eqb w IF) (IsIf d s at to) (
      Fork (eqb w FOR) (IsFor d s at to) (
      Fork (eqb w WHILE) (IsWhile d s at to) (
      Fork (eqb w TEST) (IsTest d s at to) (Plain s at to))))

  -- a word of another sort
  other-sort : (w a : ℕ) → starts_simple w ≡ true → starts_simple a ≡ false → eqb w a ≡ false
  other-sort w a h f = ne_eqb w a (λ e. false-true (sym f ∙ ap starts_simple (sym e) ∙ h))

  plain_by : (d : ℕ) (s : Statement) (at to : ℕ) → starts_simple (W at) ≡ true → Plain s at to → StatementBy (W at) d s at to
  unfolding starts_simple
  plain_by d s at to h p =
      second (eqb (W at) IF) _ _ (other-sort (W at) IF h refl)
      (second (eqb (W at) FOR) _ _ (other-sort (W at) FOR h refl)
      (second (eqb (W at) WHILE) _ _ (other-sort (W at) WHILE h refl)
      (second (eqb (W at) TEST) _ _ (other-sort (W at) TEST h refl) p)))

  module _ {d at to : ℕ} where
    pub statement-by : {s : Statement} → StatementAt W E d s at to → StatementBy (W at) d s at to
    statement-by (plain {s = s} {n = n} k e z) = plain_by d (simple s) at to (simple-starts k) (record { simply = s; n = n; is = refl; stands = k; ends = e; after = z })
    statement-by (compact {i = j} {e = e} {s = s} {n = n} {m = m} i a k f h c z) =
        subst (λ (w : ℕ). StatementBy w d (compact_if j e s) at to) (sym a)
        (record { e = e; n = n; condition = k; compact = λ _. record { simply = s; m = m; is = ap (λ (x : ℕ). compact_if x e s) i; stands = h; ends = c; after = z }; full = λ t. absurd (f t) })
    statement-by (full {i = j} {a = arms} {o = o} {n = n} {m = m} deep i a h k c z) =
        let g = arms-first h in
        subst (λ (w : ℕ). StatementBy w d (full_if j arms o) at to) (sym a)
        (record {
          e = g.e;
          n = g.n;
          condition = g.condition;
          compact = λ f. absurd (f g.then_word);
          full = λ _. record {
            b = g.b;
            rest = g.rest;
            other = o;
            m = g.m;
            else_at = n;
            end = m;
            deep = deep;
            is = ap₂ (λ (x : ℕ) (y : Arms). full_if x y o) i g.is;
            list = g.list;
            more = g.more;
            last = g.last;
            otherwise = k;
            ends = c;
            after = z;
          };
        })
    statement-by (counting {i = j} {v = v} {a = a} {b = b} {c = c} {body = body} {end = end} {n = n} deep i h l e z) =
        subst (λ (w : ℕ). StatementBy w d (for j v a b c body end) at to) (sym h.opens)
        (record {
          a = a;
          b = b;
          c = c;
          body = body;
          do_at = n;
          end = end;
          deep = deep;
          is = ap₂ (λ (x y : ℕ). for x y a b c body end) i h.variable;
          head = subst (λ (x : ℕ). ForHeadAt W E x a b c at n) h.variable h;
          list = l;
          ends = e;
          after = z;
        })
    statement-by (looping {i = j} {e = e} {body = body} {n = n} {m = m} deep i a k o l c z) =
        subst (λ (w : ℕ). StatementBy w d (while j e body) at to) (sym a)
        (record { e = e; body = body; do_at = n; end = m; deep = deep; is = ap (λ (x : ℕ). while x e body) i; condition = k; do_word = o; list = l; ends = c; after = z })
    statement-by (testing {i = j} {e = e} {c = c} {o = o} {n = n} {m = m} {k = k} deep i a h l q t z) =
        subst (λ (w : ℕ). StatementBy w d (test j e c o) at to) (sym a)
        (record { e = e; c = c; default = o; n = n; m = m; end = k; deep = deep; is = ap (λ (x : ℕ). test x e c o) i; selector = h; cases = l; otherwise = q; ends = t; after = z })

    module _ {s : Statement} (h : StatementAt W E d s at to) where
      by_word : (w : ℕ) → W at ≡ w → StatementBy w d s at to
      by_word w q = subst (λ (v : ℕ). StatementBy v d s at to) q (statement-by h)

      pub statement-if : W at ≡ IF → IsIf d s at to
      statement-if q = by_word IF q

      pub statement-for : W at ≡ FOR → IsFor d s at to
      statement-for q = by_word FOR q

      pub statement-while : W at ≡ WHILE → IsWhile d s at to
      statement-while q = by_word WHILE q

      pub statement-test : W at ≡ TEST → IsTest d s at to
      statement-test q = by_word TEST q

      pub statement-plain : ¬ (W at ≡ IF) → ¬ (W at ≡ FOR) → ¬ (W at ≡ WHILE) → ¬ (W at ≡ TEST) → Plain s at to
      statement-plain a b c e =
          not_first (eqb (W at) TEST) _ _ (ne_eqb _ _ e)
          (not_first (eqb (W at) WHILE) _ _ (ne_eqb _ _ c)
          (not_first (eqb (W at) FOR) _ _ (ne_eqb _ _ b) (not_first (eqb (W at) IF) _ _ (ne_eqb _ _ a) (statement-by h))))

  -- ---- data and routines
  pub record HasContent (make : Expr → Content) (x : Content) (at to : ℕ) : Type 0 where
    pub e : Expr
    pub is : x ≡ make e
    pub stands : ExprAt W E e at to

  pub record Sized (x : Content) (at to : ℕ) : Type 0 where
    pub e : Expr
    pub n : ℕ
    pub is : x ≡ array_data e
    pub stands : ExprAt W E e (at + 1) n
    pub closes : W n ≡ close_brace
    pub after : to ≡ n + 1

  module _ {opens at to : ℕ} where
    pub content-initial : {x : Content} → ContentAt W E opens x at to → opens ≡ VAR → W at ≡ becomes → HasContent initial_data x (at + 1) to
    content-initial (no-content v f g e) o q = absurd (f q)
    content-initial (initial {e = e} v b k) o q = record { e = e; is = refl; stands = k }
    content-initial (sized v b k c z) o q = absurd (omega arith)
    content-initial (constant v b k) o q = absurd (omega arith)

    pub content-sized : {x : Content} → ContentAt W E opens x at to → W at ≡ open_brace → Sized x at to
    content-sized (no-content v f g e) q = absurd (g q)
    content-sized (initial v b k) q = absurd (omega arith)
    content-sized (sized {e = e} {n = n} v b k c z) q = record { e = e; n = n; is = refl; stands = k; closes = c; after = z }
    content-sized (constant v b k) q = absurd (omega arith)

    pub content-none : {x : Content} → ContentAt W E opens x at to → ¬ (W at ≡ becomes) → ¬ (W at ≡ open_brace) → (x ≡ variable_data) × (to ≡ at)
    content-none (no-content v f g e) p q = (refl, e)
    content-none (initial v b k) p q = absurd (p b)
    content-none (sized v b k c z) p q = absurd (q b)
    content-none (constant v b k) p q = absurd (p b)

    pub content-const : {x : Content} → ContentAt W E opens x at to → ¬ (opens ≡ VAR) → opens ≡ CONST
    content-const (no-content v f g e) o = absurd (o v)
    content-const (initial v b k) o = absurd (o v)
    content-const (sized v b k c z) o = absurd (o v)
    content-const (constant v b k) o = v

    pub content-constant : {x : Content} → ContentAt W E opens x at to → opens ≡ CONST → HasContent constant_data x (at + 1) to
    content-constant (no-content v f g e) o = absurd (omega arith)
    content-constant (initial v b k) o = absurd (omega arith)
    content-constant (sized v b k c z) o = absurd (omega arith)
    content-constant (constant {e = e} v b k) o = record { e = e; is = refl; stands = k }

    pub content-becomes : {x : Content} → ContentAt W E opens x at to → opens ≡ CONST → W at ≡ becomes
    content-becomes (no-content v f g e) o = absurd (omega arith)
    content-becomes (initial v b k) o = b
    content-becomes (sized v b k c z) o = absurd (omega arith)
    content-becomes (constant v b k) o = b

  pub record HasList (o : Option RoutineList) (at to : ℕ) : Type 0 where
    pub l : RoutineList
    pub is : o ≡ some l
    pub stands : RoutineListAt W E l at to

  pub behind-some : {sort : ℕ} {o : Option RoutineList} {at to : ℕ} → ListBehindAt W E sort o at to → W at ≡ sort → HasList o (at + 1) to
  behind-some (no-list f e) q = absurd (f q)
  behind-some (a-list {l = l} c h) q = record { l = l; is = refl; stands = h }

  pub behind-none : {sort : ℕ} {o : Option RoutineList} {at to : ℕ} → ListBehindAt W E sort o at to → ¬ (W at ≡ sort) → (o ≡ none) × (to ≡ at)
  behind-none (no-list f e) q = (refl, e)
  behind-none (a-list c h) q = absurd (q c)

  pub record IsProc (result : Option ℕ) (closing at name : ℕ) : Type 0 where
    pub is : result ≡ none
    pub name-at : name ≡ at + 1
    pub ends : closing ≡ ENDPROC

  pub record IsFunc (result : Option ℕ) (closing at name : ℕ) : Type 0 where
    pub is : result ≡ some (W (at + 1))
    pub opens : W at ≡ FUNC
    pub typed : is_type (W (at + 1)) ≡ true
    pub name-at : name ≡ at + 2
    pub ends : closing ≡ ENDFUNC

  pub head-proc : {result : Option ℕ} {closing at name : ℕ} → HeadAt W E result closing at name → W at ≡ PROC → IsProc result closing at name
  head-proc (a-proc p n c) q = record { is = refl; name-at = n; ends = c }
  head-proc (a-func p t k n c) q = absurd (omega arith)

  pub head-func : {result : Option ℕ} {closing at name : ℕ} → HeadAt W E result closing at name → ¬ (W at ≡ PROC) → IsFunc result closing at name
  head-func (a-proc p n c) q = absurd (q p)
  head-func (a-func p t k n c) q = record { is = ap (λ (x : ℕ). some x) t; opens = p; typed = k; name-at = n; ends = c }
