-- What is known with a value store is known with another that has the same cells.
use Rattle.check_names.specs.Promises.{store_bytes}
use mathlib.Core.Path.{refl, sym, subst, ◌∙◌}
use mathlib.Core.Bool.{Bool}
use mathlib.Core.List.{List}
use Prim.Native.Nat.{ℕ, ◌≤◌, ◌<◌}
use lib.ListN.{get_or}
use Rattle.paper.specs.Names.{meaning}
use Rattle.paper.specs.Types.{Fault}
use Rattle.check_names.specs.Meanings.{Means}
use Rattle.check_expressions.specs.Known.{Known}
use Rattle.check_expressions.specs.Answers.{Typed}
use Rattle.check_expressions.specs.Answers as expressions
use Rattle.check_constants.specs.Answers.{Fine}
use Rattle.check_around.specs.declared.Setting.{Setting}
use Rattle.check_around.specs.Around.{Around}
use Rattle.check_statements.specs.Answers.{SameValues, Stands, Lists, Tell, Answer}
use Rattle.check_compounds.specs.Here.{Here}
use Rattle.check_statements.specs.Parts.{Elses}
use Rattle.check_names.specs.Scopes.{Walked}
use Rattle.layout.specs.declared.types.ValueType.{ValueType}
use Rattle.check_expressions.specs.Judgements.{Judged}
use Rattle.std.specs.Prelude.{Ok, Err}

pub same-values : (values : List ℕ) → SameValues values values
same-values values = record { words = refl; long = refl }

pub same_then : {a b c : List ℕ} → SameValues a b → SameValues b c → SameValues a c
same_then p q = record { words = q.words ∙ p.words; long = q.long ∙ p.long }

module _ {values values' : List ℕ} (s : SameValues values values') where
  abbrev pub known-as : Known values → Known values'
  known-as k = record {
    W = k.W;
    S = k.S;
    routine = k.routine;
    m = k.m;
    n = k.n;
    most = k.most;
    table = subst (λ (l : ℕ). store_bytes ≤ l) (sym s.long) k.table;
    means = subst (Means k.routine k.W k.S) (sym s.words) k.means;
    within = k.within;
    small = k.small;
  }

  abbrev pub around-as : {text : List ℕ} → Around text values → Around text values'
  around-as a = record {
    known = known-as a.known;
    R = a.R;
    K = a.K;
    M = a.M;
    numbers = a.numbers;
    callable = a.callable;
    owns = a.owns;
    quoted = a.quoted;
    sorts = a.sorts;
  }

  pub here-as : {text : List ℕ} (a : Around text values) (code : List ℕ) (k : Setting) (used at to : ℕ) → Here a code k used at to → Here (around-as a) code k used at to
  here-as a code k used at to h = record {
    tells = h.tells;
    few = h.few;
    within = h.within;
    fine = λ t. subst (λ (X : List ℕ). Fine a.known.m used X a.M (meaning a.known.S t)) (sym s.words) (h.fine t);
    number = subst (λ (X : List ℕ). get_or X 1263 0 < 2147483648) (sym s.words) h.number;
    unread = h.unread;
    calls = record { heads = h.calls.heads; room = h.calls.room };
  }

  abbrev pub stands-as : {text code : List ℕ} {k : Setting} {used at : ℕ} → Stands text code values k used at → Stands text code values' k used at
  stands-as {code = code} {k = k} {used = used} {at = at} g =
      record { to = g.to; around = around-as g.around; here = here-as g.around code k used at g.to g.here; d = g.d; s = g.s; is = g.is; room = g.room }

  abbrev pub lists-as : {text code : List ℕ} {k : Setting} {used at : ℕ} → Lists text code values k used at → Lists text code values' k used at
  lists-as {code = code} {k = k} {used = used} {at = at} g =
      record { to = g.to; around = around-as g.around; here = here-as g.around code k used at g.to g.here; d = g.d; l = g.l; is = g.is; room = g.room }

  abbrev pub elses-as : {text code : List ℕ} {k : Setting} {used c : ℕ} → Elses text code values k used c → Elses text code values' k used c
  elses-as {code = code} {k = k} {used = used} {c = c} g =
      record { to = g.to; around = around-as g.around; here = here-as g.around code k used c g.to g.here; d = g.d; o = g.o; z = g.z; is = g.is; ends = g.ends; after = g.after; room = g.room }

  abbrev pub expression-as : {code : List ℕ} {top at : ℕ} → expressions.Stands code values top at → expressions.Stands code values' top at
  expression-as g = record { known = known-as g.known; d = g.d; e = g.e; to = g.to; tops = g.tops; deep = g.deep; is = g.is; ends = g.ends; loaded = g.loaded }

  pub of-type-as : {code after : List ℕ} {only : Bool} {wants : ValueType} {at : ℕ} {r : Judged} → Typed code values' after only wants at r → Typed code values after only wants at r
  of-type-as x = record { is = λ g t w. x.is (expression-as g) t w }

  pub answer-as : (fs : List Fault) (before after values'' : List ℕ) (at to count : ℕ) (holds : Type 0) (r : Walked) → Answer fs before after values' values'' at to count holds r → Answer fs before after values values'' at to count holds r
  unfolding Tell
  answer-as fs before after values'' at to count holds (Ok (next, u)) x =
      let d = x.tells in
      record { tells = record { none = d.none; next-is = d.next-is; used-is = d.used-is; few = d.few; written = d.written; outside = d.outside; same = same_then s d.same }; long = x.long }
  answer-as fs before after values'' at to count holds (Err broken) x = record { tells = x.tells; long = x.long }
