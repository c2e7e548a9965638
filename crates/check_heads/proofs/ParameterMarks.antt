-- The parameters of a routine, one after another.
use mathlib.Core.Path.{◌≡◌, refl, sym, ap, ap₂, subst, ◌∙◌}
use mathlib.Core.Bool.{Bool, true, false, ◌||◌}
use mathlib.Core.List.{List, [], ◌∷◌, ◌++◌, append_assoc}
use Prim.Native.Nat.{ℕ, zero, suc, ◌+◌, ◌*◌, ◌<◌, ◌≤◌}
use native.Mathlib.Omega.{arith}
use native.Mathlib.Numerals.{add-one}
use lib.Dec.{eqb}
use lib.ListN.{length, get_or}
use borrow.Author.Tests.{eq-eqb, ne_eqb}
use Rattle.laws.proofs.Tests.{by-same}
use Rattle.std.specs.Prelude.{if◌then◌else◌}
use Rattle.paper.specs.Sorts.{comma}
use Rattle.paper.specs.Words.{Word, word_limit}
use Rattle.paper.specs.Trees.{Parameter}
use Rattle.paper.specs.Expressions.{is_type}
use Rattle.paper.specs.Names.{DataType, refused_piece, type_of, Text, no_word, nth, sort_in, spelled, is_among, cannot_declare}
use Rattle.store_cells.specs.Cells.{cells_of, Put}
use Rattle.store_cells.proofs.Kept.{put_same, put_other}
use Rattle.code.specs.Cells.{op_at, value_at}
use Rattle.code.specs.Signatures.{type_at, types_at}
use Rattle.code.proofs.Signatures.{types_more, types-kept}
use Rattle.check_names.specs.Numbers.{number_of, IsName}
use Rattle.check_names.specs.Meanings.{is_protected, protects_cell, first_meaning, cell_for}
use Rattle.check_names.specs.Promises.{store_bytes, number_at, meaning_at}
use Rattle.check_names.proofs.Spellings.{texts-same, texts-differ, numbers-same, spellings-same, number-most}
use Rattle.grammar.specs.Form.{Parses, SeparatedAt, last_one, one_more, ParameterAt}
use Rattle.grammar.proofs.Inversions.{FirstOf, separated_first, closed_none, closed_some}
use Rattle.grammar.proofs.Places.{parameters-grow}
use Rattle.check_heads.specs.Stores.{Kept, Marked, Lain}
use Rattle.check_heads.specs.Trees.{given_types}
use Rattle.check_heads.specs.Parts.{refuses, mark_of, Marks, ParametersStand, Sees, ParametersMarked, Parameters}
use Rattle.check_heads.proofs.WordsInside.{expression-grows}
use Rattle.check_heads.proofs.Frames.{kept_same, kept_on, put-kept, marked-same, marked-on, marked-wider, lain-kept, valued-value, valued-op, valued-other, valued-marked, valued-type}

-- a word has a sort
pub sort-inside : (W : List Word) (i : ℕ) → 0 < sort_in W i → i < length W
unfolding sort_in nth no_word
sort-inside [] i h = absurd (omega arith)
sort-inside (w ∷ W) zero h = omega arith
sort-inside (w ∷ W) (suc i) h = omega (arith, sort-inside W i h)

-- a parameter has two words
two-words : {W : ℕ → ℕ} {ps : List Parameter} {at to : ℕ} → SeparatedAt W (ParameterAt W (Parses W)) ps at to → at + 2 ≤ to
two-words (last_one k f) = omega (arith, k.after)
two-words (one_more k c h) = omega (arith, k.after, two-words h)

pub type-marked : (v s : ℕ) (b : Bool) → v ≡ mark_of b → (if eqb v 0 then type_of s else refused_piece) ≡ (if b then refused_piece else type_of s)
unfolding mark_of
type-marked v s true e = rw e
type-marked v s false e = rw e

-- ---- what is left
pub record ParamsLeft {code₀ values₀ : List ℕ} {h at : ℕ} (g : ParametersStand code₀ values₀ h at) (code values : List ℕ) (i count : ℕ) : Type 0 where
  pub rest : List Parameter
  pub form : SeparatedAt (sort_in g.W) (ParameterAt (sort_in g.W) (Parses (sort_in g.W))) rest i g.close
  pub earlier : List Text
  pub place : i ≡ at + 3 * count
  pub left : given_types g.W [] 0 g.ps ≡ types_at (cells_of code) count at ++ given_types g.W earlier count rest
  pub many : length g.ps ≡ count + length rest
  pub seen : (j : ℕ) → IsName g.W j → is_among earlier (spelled g.W j) ≡ eqb (get_or (cells_of values) (number_of g.W j) 0) h
  pub guards : (j : ℕ) → IsName g.W j → protects_cell (cell_for g.W (cells_of values) j) ≡ is_protected (spelled g.W j)
  pub marked : Marked code₀ code at g.close
  pub kept : Kept values₀ values 0 g.close
  pub sees : Sees values₀ values h

-- what is known without it
pub record ParamsPlain (code₀ values₀ code values : List ℕ) (i count : ℕ) : Type 0 where
  pub code-long : length code ≡ length code₀
  pub values-long : length values ≡ length values₀
  pub room : i * 8 + 24 ≤ length code
  pub values-room : store_bytes ≤ length values
  pub few : count ≤ i
  pub last : i + 2 < word_limit

pub record ParamsGo (code₀ values₀ : List ℕ) (h at : ℕ) (code values : List ℕ) (i count : ℕ) : Type 0 where
  pub plain : ParamsPlain code₀ values₀ code values i count
  pub left : (g : ParametersStand code₀ values₀ h at) → ParamsLeft g code values i count

module _ {code₀ values₀ : List ℕ} {h at : ℕ} (g : ParametersStand code₀ values₀ h at) where
  closed : g.close < length g.W
  closed = sort-inside g.W g.close (omega (arith, g.closes))

  pub params-plain : (code values : List ℕ) (i count : ℕ) → ParamsLeft g code values i count → ParamsPlain code₀ values₀ code values i count
  params-plain code values i count l =
      let z = closed in
      let t = two-words l.form in
      record {
        code-long = l.marked.kept.long;
        values-long = l.kept.long;
        room = omega (arith, l.marked.kept.long, g.lain.room, g.lain.most);
        values-room = omega (arith, l.kept.long, g.room);
        few = omega (arith, l.place);
        last = omega (arith, g.lain.most);
      }

-- ---- one more
module _ {code₀ values₀ : List ℕ} {h at : ℕ} (g : ParametersStand code₀ values₀ h at) (code values code' values' : List ℕ) (i count : ℕ)
    (l : ParamsLeft g code values i count) (k : Marks code values h i count code' values') where
  abbrev One : Parameter → (at to : ℕ) → Type 0
  One = ParameterAt (sort_in g.W) (Parses (sort_in g.W))

  first : FirstOf (sort_in g.W) One l.rest i g.close
  first = separated_first (sort_in g.W) One l.form

  text : Text
  text = spelled g.W (i + 1)

  is_name : IsName g.W (i + 1)
  is_name = first.one.name

  inside : i + 2 ≤ g.close
  inside = two-words l.form

  bounds : (g.close < length g.W) × (length g.W ≤ word_limit)
  bounds = (closed g, g.lain.most)

  lain : Lain g.W code
  lain = lain-kept l.marked g.W g.lain

  long : length code ≡ length code₀
  long = l.marked.kept.long

  room : i * 8 + 8 ≤ length code
  room = omega (arith, lain.room, inside, bounds)

  number_is : number_at (cells_of code) (i + 1) ≡ number_of g.W (i + 1)
  number_is = lain.numbers (i + 1) is_name

  number-low : number_of g.W (i + 1) ≤ i + 1
  number-low = number-most g.W (i + 1) is_name

  put : Put values values' (number_of g.W (i + 1)) h
  put = subst (λ (n : ℕ). Put values values' n h) number_is k.seen

  put-room : number_of g.W (i + 1) * 4 + 4 ≤ length values
  put-room = omega (arith, l.kept.long, g.room, number-low, inside, bounds)

  refused-is : refuses (meaning_at (cells_of code) (cells_of values) (i + 1)) (get_or (cells_of values) (number_at (cells_of code) (i + 1)) 0) h count ≡ (cannot_declare l.earlier text || eqb count 64)
  unfolding refuses cannot_declare text
  refused-is =
      ap₂ (λ (x y : Bool). (x || y) || eqb count 64) (ap (λ (n : ℕ). protects_cell (get_or (cells_of values) (first_meaning + n) 0)) number_is ∙ l.guards (i + 1) is_name)
      (ap (λ (n : ℕ). eqb (get_or (cells_of values) n 0) h) number_is ∙ sym (l.seen (i + 1) is_name))

  type-is : type_at (cells_of code') i ≡ (if cannot_declare l.earlier text || eqb count 64 then refused_piece else type_of first.a.type)
  unfolding type_at
  type-is =
      type-marked (value_at (cells_of code') i) (op_at (cells_of code') i) (cannot_declare l.earlier text || eqb count 64) (valued-value i _ k.mark room ∙ ap mark_of refused-is)
      ∙ ap (λ (s : ℕ). if cannot_declare l.earlier text || eqb count 64 then refused_piece else type_of s)
      (valued-op i _ k.mark room ∙ lain.sorts i (omega (arith, inside, bounds)) ∙ sym first.one.type)

  types-so-far : types_at (cells_of code') count at ≡ types_at (cells_of code) count at
  types-so-far = types-kept (cells_of code) (cells_of code') at count (λ j a b. valued-other i _ k.mark room j (λ e. omega (arith, l.place)))

  types-then : types_at (cells_of code') (count + 1) at ≡ types_at (cells_of code) count at ++ (type_at (cells_of code') i ∷ [])
  types-then =
      ap (λ (n : ℕ). types_at (cells_of code') n at) (add-one count) ∙ types_more (cells_of code') at count
      ∙ ap₂ (λ (a : List DataType) (b : ℕ). a ++ (type_at (cells_of code') b ∷ [])) types-so-far (sym l.place)

  name-is : first.a.name ≡ i + 1
  name-is = first.one.named

  left-then : given_types g.W [] 0 g.ps ≡ types_at (cells_of code') (count + 1) at ++ given_types g.W (text ∷ l.earlier) (count + 1) first.rest
  unfolding given_types text
  left-then =
      l.left ∙ ap (λ (r : List Parameter). types_at (cells_of code) count at ++ given_types g.W l.earlier count r) first.is
      ∙ ap (λ (n : ℕ). types_at (cells_of code) count at ++ ((if cannot_declare l.earlier (spelled g.W n) || eqb count 64 then refused_piece else type_of first.a.type) ∷ given_types g.W (spelled g.W n ∷ l.earlier) (count + 1) first.rest)) name-is
      ∙ ap (λ (t : DataType). types_at (cells_of code) count at ++ (t ∷ given_types g.W (text ∷ l.earlier) (count + 1) first.rest)) (sym type-is)
      ∙ sym (append_assoc (types_at (cells_of code) count at) (type_at (cells_of code') i ∷ []) (given_types g.W (text ∷ l.earlier) (count + 1) first.rest))
      ∙ ap (λ (a : List DataType). a ++ given_types g.W (text ∷ l.earlier) (count + 1) first.rest) (sym types-then)

  seen-then : (j : ℕ) → IsName g.W j → is_among (text ∷ l.earlier) (spelled g.W j) ≡ eqb (get_or (cells_of values') (number_of g.W j) 0) h
  unfolding is_among text
  seen-then j n =
      by-same (number_of g.W j) (number_of g.W (i + 1))
      (λ e. rw (texts-same text (spelled g.W j) (sym (numbers-same g.W j (i + 1) n is_name e)), is_among)
      (sym (ap (λ (x : ℕ). eqb (get_or (cells_of values') x 0) h) e ∙ eq-eqb _ h (put_same put put-room))))
      (λ d. rw (texts-differ text (spelled g.W j) (λ e. d (spellings-same g.W j (i + 1) (sym e))), is_among)
      (l.seen j n ∙ ap (λ (x : ℕ). eqb x h) (sym (put_other put put-room (number_of g.W j) d))))

  -- the first of what is left is done
  record ParamsNext : Type 0 where
    pub rest : List Parameter
    pub more : sort_in g.W (i + 2) ≡ comma → SeparatedAt (sort_in g.W) One rest (i + 3) g.close
    pub done : (sort_in g.W (i + 2) ≡ comma → ⊥) → (rest ≡ []) × (g.close ≡ i + 2)
    pub sort : (s : ℕ) → s ≡ op_at (cells_of code') (i + 2) → s ≡ sort_in g.W (i + 2)
    pub left : given_types g.W [] 0 g.ps ≡ types_at (cells_of code') (count + 1) at ++ given_types g.W (text ∷ l.earlier) (count + 1) rest
    pub many : length g.ps ≡ count + 1 + length rest
    pub marked : Marked code₀ code' at g.close
    pub kept : Kept values₀ values' 0 g.close
    pub sees : Sees values₀ values' h

  params-next : ParamsNext
  params-next =
      let z : first.n ≡ i + 2 = first.one.after in
      let y : first.n + 1 ≡ i + 3 = omega (arith, z) in
      let p = marked-on l.marked (marked-wider (valued-marked i _ k.mark room (valued-type (op_at (cells_of code) i) (ap is_type (lain.sorts i (omega (arith, inside, bounds))) ∙ first.one.typed))) at g.close (omega (arith, l.place)) (omega (arith, inside))) in
      record {
        rest = first.rest;
        more = λ c. subst (λ (n : ℕ). SeparatedAt (sort_in g.W) One first.rest n g.close) y (first.more (ap (sort_in g.W) z ∙ c));
        done = λ d. let w = first.done (λ c. d (ap (sort_in g.W) (sym z) ∙ c)) in (w.0, w.1 ∙ z);
        sort = λ s e. e ∙ (lain-kept p g.W g.lain).sorts (i + 2) (omega (arith, inside, bounds));
        left = left-then;
        many = l.many ∙ ap (λ (r : List Parameter). count + length r) first.is ∙ omega arith;
        marked = p;
        kept = kept_on l.kept (put-kept 0 g.close put put-room (omega arith) (omega (arith, number-low, inside)));
        sees = λ b u f n s. by-same n (number_of g.W (i + 1)) (λ e. subst (λ (x : ℕ). x < b) (sym (ap (λ (x : ℕ). get_or (cells_of values') x 0) e ∙ put_same put put-room)) u)
            (λ d. subst (λ (x : ℕ). x < b) (sym (put_other put put-room n d)) (l.sees b u f n s));
      }

  left-on : (s : ℕ) → s ≡ op_at (cells_of code') (i + 2) → s ≡ 5 → ParamsLeft g code' values' (i + 3) (count + 1)
  left-on s e c =
      let q = params-next in
      record {
        rest = q.rest;
        form = q.more (sym (q.sort s e) ∙ c);
        earlier = text ∷ l.earlier;
        place = omega (arith, l.place);
        left = q.left;
        many = q.many;
        seen = seen-then;
        guards = λ j n. ap protects_cell (put_other put put-room (first_meaning + number_of g.W j) (λ z. omega (arith, number-low, inside, bounds))) ∙ l.guards j n;
        marked = q.marked;
        kept = q.kept;
        sees = q.sees;
      }

  marked_all : (s : ℕ) → s ≡ op_at (cells_of code') (i + 2) → (s ≡ 5 → ⊥) → ParametersMarked g.W g.ps g.close code₀ values₀ h at code' values' (count + 1)
  unfolding given_types
  marked_all s e c =
      let q = params-next in
      let d = q.done (λ z. c (q.sort s e ∙ z)) in
      record {
        count = sym (q.many ∙ ap (λ (r : List Parameter). count + 1 + length r) d.0 ∙ omega arith);
        types = sym (q.left ∙ ap (λ (r : List Parameter). types_at (cells_of code') (count + 1) at ++ given_types g.W (text ∷ l.earlier) (count + 1) r) d.0 ∙ nothing (types_at (cells_of code') (count + 1) at));
        ends = omega (arith, l.place, d.1);
        marked = q.marked;
        kept = q.kept;
        sees = q.sees;
      }
    where
      nothing : (a : List DataType) → a ++ [] ≡ a
      nothing [] = refl
      nothing (t ∷ a) = ap (λ (r : List DataType). t ∷ r) (nothing a)

-- ---- the loop
at-inside : (code values : List ℕ) (h at : ℕ) (g : ParametersStand code values h at) → at < length g.W
at-inside code values h at g = let z = closed g in omega (arith, parameters-grow (sort_in g.W) (Parses (sort_in g.W)) (expression-grows (sort_in g.W)) g.form)

pub params-room : (code values : List ℕ) (h at : ℕ) → ParametersStand code values h at → at * 8 + 8 ≤ length code
params-room code values h at g = omega (arith, at-inside code values h at g, g.lain.room, g.lain.most)

module _ (code values : List ℕ) (h at s : ℕ) (g : ParametersStand code values h at) (e : s ≡ op_at (cells_of code) at) where
  sort-is : (g : ParametersStand code values h at) → s ≡ sort_in g.W at
  sort-is g = e ∙ g.lain.sorts at (at-inside code values h at g)

  pub params_none : s ≡ 7 → Parameters code values h at code values 0
  unfolding given_types types_at
  params_none c = record {
    few = omega arith;
    long = refl;
    is = λ g. let w = closed_none (sort_in g.W) (ParameterAt (sort_in g.W) (Parses (sort_in g.W))) g.form (sym (sort-is g) ∙ c) in record {
      count = sym (ap length w.0);
      types = sym (ap (given_types g.W [] 0) w.0);
      ends = omega (arith, w.1);
      marked = marked-same code at g.close;
      kept = kept_same values 0 g.close;
      sees = λ b u f n q. f n q;
    };
  }

  pub params-start : (s ≡ 7 → ⊥) → ParamsGo code values h at code values at 0
  unfolding types_at is_among
  params-start c = record { plain = params-plain g code values at 0 (starts g); left = starts }
    where
      starts : (g : ParametersStand code values h at) → ParamsLeft g code values at 0
      starts g = record {
        rest = g.ps;
        form = closed_some (sort_in g.W) (ParameterAt (sort_in g.W) (Parses (sort_in g.W))) g.form (λ z. c (sort-is g ∙ z));
        earlier = [];
        place = omega arith;
        left = refl;
        many = omega arith;
        seen = λ j n. sym (ne_eqb _ h (g.unseen j n));
        guards = g.guards;
        marked = marked-same code at g.close;
        kept = kept_same values 0 g.close;
        sees = λ b u f n q. f n q;
      }

module _ (code₀ values₀ : List ℕ) (h at : ℕ) (g : ParametersStand code₀ values₀ h at) (code values code' values' : List ℕ) (i count s : ℕ) (l : ParamsGo code₀ values₀ h at code values i count)
    (k : Marks code values h i count code' values') (e : s ≡ op_at (cells_of code') (i + 2)) where
  pub params-on : s ≡ 5 → ParamsGo code₀ values₀ h at code' values' (i + 3) (count + 1)
  params-on c = record {
    plain = params-plain g code' values' (i + 3) (count + 1) (left-on g code values code' values' i count (l.left g) k s e c);
    left = λ g. left-on g code values code' values' i count (l.left g) k s e c;
  }

  pub params-end : (s ≡ 5 → ⊥) → Parameters code₀ values₀ h at code' values' (count + 1)
  params-end c = record {
    few = omega (arith, l.plain.few, l.plain.last);
    long = (marked_all g code values code' values' i count (l.left g) k s e c).marked.kept.long;
    is = λ g. marked_all g code values code' values' i count (l.left g) k s e c;
  }
