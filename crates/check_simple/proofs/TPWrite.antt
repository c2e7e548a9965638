-- TPWrite "s" [\Num:=e]; and the strings of this and of TPReadNum.
use mathlib.Core.Path.{◌≡◌, refl, sym, ap, subst, ◌∙◌}
use mathlib.Core.Bool.{Bool}
use mathlib.Core.List.{List, [], ◌∷◌}
use mathlib.Core.Option.{none, some}
use Prim.Native.Nat.{ℕ, suc, ◌+◌, ◌-◌, ◌*◌, ◌/◌, ◌%◌, ◌<◌, ◌≤◌}
use native.Mathlib.Omega.{arith}
use lib.ListN.{length, take, drop}
use lib.Seq.{take-nil, take-take, drop-drop}
use mir.Syntax.{w64}
use mir.Val.{Fits}
use borrow.Author.Tests.{eq-eqb}
use Rattle.laws.proofs.Tests.{by-same}
use Rattle.paper.specs.Sorts.{STRING, backslash, TPWRITE}
use Rattle.paper.specs.Words.{Word, word_limit}
use Rattle.paper.specs.Trees.{writes}
use Rattle.paper.specs.Expressions.{nestings}
use Rattle.paper.specs.Names.{nth, sort_in}
use Rattle.paper.specs.Checks.{is_some, optional_num, simple_faults}
use Rattle.paper.specs.Steps.{unquoted, characters}
use Rattle.store_cells.specs.Cells.{cells_of}
use Rattle.code.specs.Cells.{op_in, value_in, head_at, op_at, value_at, place_at, link_at}
use Rattle.code.specs.Spans.{guard}
use Rattle.code.specs.Steps.{Head, characters_in, a_write, a_write_of}
use Rattle.grammar.specs.Form.{Parses}
use Rattle.grammar.proofs.Inversions as inversions
use Rattle.check_around.specs.Answers.{Stepped}
use Rattle.std.specs.Prelude.{Ok}
use Rattle.store_writing.specs.Promises.{Linked}
use Rattle.store_writing.proofs.Keeping.{head-above, place-below, place-above, kept-wider, kept_on}
use Rattle.check_expressions.proofs.Starts.{loaded-part, loaded-after}
use Rattle.faults.proofs.Expressions.{grows}
use Rattle.check_links.specs.Raw.{RawText, RawDoes}
use Rattle.check_links.proofs.Ops.{low-still}
use Rattle.check_around.specs.Around.{Quoted, Around, ground_of}
use Rattle.check_simple.specs.Answers.{Stands, Answers}
use Rattle.check_simple.specs.Parts.{Begins, BeginsOf, BegunOf, Values, Valued, Strings, Spelled}
use Rattle.check_simple.proofs.SimpleStatements.{stands-sort, stated-fine, stated-on}
use Rattle.layout.specs.declared.types.ValueType.TheVariants.{Num}
use Rattle.paper.specs.Names.{a_num}
use Rattle.layout.specs.Parts.{characters_part}

-- ---- the characters of a string in the text
drop-one : (m : ℕ) (l : List ℕ) → drop 1 (take (suc m) l) ≡ take m (drop 1 l)
drop-one m [] = sym (take-nil m)
drop-one m (b ∷ r) = refl

inner-part : (n a : ℕ) (text : List ℕ) → 2 ≤ n → take (n - 2) (drop 1 (take n (drop a text))) ≡ take (n - 2) (drop (a + 1) text)
inner-part n a text h =
    let e : n ≡ suc (n - 1) = omega arith in
    ap (λ (k : ℕ). take (n - 2) (drop 1 (take k (drop a text)))) e
    ∙ ap (take (n - 2)) (drop-one (n - 1) (drop a text))
    ∙ take-take (n - 2) (n - 1) (drop 1 (drop a text)) (omega arith)
    ∙ ap (take (n - 2)) (drop-drop 1 a text)

pub characters-are : (W : List Word) (text : List ℕ) (i : ℕ) → Quoted text (nth W i) → characters W i ≡ unquoted (take (length (nth W i).covers - 2) (drop ((nth W i).place + 1) text))
unfolding characters
characters-are W text i q =
    ap (λ (l : List ℕ). unquoted (take (length (nth W i).covers - 2) (drop 1 l))) q.covers
    ∙ ap unquoted (inner-part (length (nth W i).covers) (nth W i).place text q.least)

text-read : (m n : ℕ) (fn : Bool) (text : List ℕ) (R : List Head) (C : List ℕ) (i len place : ℕ) → len < characters_part → value_at C i ≡ len + characters_part * length (unquoted (take (len - 2) (drop (place + 1) text))) → place_at C i ≡ place
    → characters_in m n fn text R C i ≡ some (unquoted (take (len - 2) (drop (place + 1) text)))
unfolding characters_in guard
text-read m n fn text R C i len place few v p =
    let low : value_at C i % characters_part ≡ len = ap (λ (x : ℕ). x % characters_part) v ∙ omega arith in
    let high : value_at C i / characters_part ≡ length (unquoted (take (len - 2) (drop (place + 1) text))) = ap (λ (x : ℕ). x / characters_part) v ∙ omega arith in
    rw (low, p, eq-eqb (value_at C i / characters_part) (length (unquoted (take (len - 2) (drop (place + 1) text)))) high, characters_in)

pub raw-text : {text values : List ℕ} (a : Around text values) (C : List ℕ) (i : ℕ) → Quoted text (nth a.known.W i) → op_at C i ≡ STRING
    → value_at C i ≡ length (nth a.known.W i).covers + characters_part * length (unquoted (take (length (nth a.known.W i).covers - 2) (drop ((nth a.known.W i).place + 1) text)))
    → place_at C i ≡ (nth a.known.W i).place → RawText (ground_of a) a.known.n C i i
unfolding ground_of
raw-text {text} a C i q o v p = record {
  is = text-read a.known.m a.known.n (is_some a.K.result) text a.R C i (length (nth a.known.W i).covers) (nth a.known.W i).place (omega (arith, q.most)) v p ∙ ap some (sym (characters-are a.known.W text i q));
  still = low-still (op_at C i) (omega (arith, o));
}

-- a string at word i, in words that are unread
unfoldable pub string-at : (code values : List ℕ) (at : ℕ) (g : Stands code values at) (now : List ℕ) (i : ℕ) → at ≤ i → i ≤ g.to → sort_in g.around.known.W i ≡ STRING
    → head_at (cells_of now) i ≡ head_at (cells_of code) i → place_at (cells_of now) i ≡ place_at (cells_of code) i → length now ≡ length code → Strings g.text now i
string-at code values at g now i l h s e p k = record {
  w = nth g.around.known.W i;
  quoted = g.around.quoted i s;
  value = ap value_in e ∙ g.unread.strings i l h s;
  place = p ∙ g.unread.places i l h;
  room = omega (arith, k, g.unread.loaded.room, h);
}

-- ---- TPWrite "s" [\Num:=e];
module _ (code values : List ℕ) (i : ℕ) (c : Begins TPWRITE code values i) where
  write-is : inversions.Writes (sort_in c.stands.around.known.W) (Parses (sort_in c.stands.around.known.W)) c.stands.s i c.stands.to
  write-is = inversions.simple-tpwrite (sort_in c.stands.around.known.W) (Parses (sort_in c.stands.around.known.W)) c.stands.is c.here

  write-some : sort_in c.stands.around.known.W (i + 2) ≡ backslash → inversions.Given (sort_in c.stands.around.known.W) (Parses (sort_in c.stands.around.known.W)) write-is.e (i + 5) c.stands.to
  write-some b =
      let q : i + 2 + 3 ≡ i + 5 = omega arith in
      subst (λ (x : ℕ). inversions.Given (sort_in c.stands.around.known.W) (Parses (sort_in c.stands.around.known.W)) write-is.e x c.stands.to) q
      (inversions.number-some (sort_in c.stands.around.known.W) (Parses (sort_in c.stands.around.known.W)) write-is.number b)

  write-none : (sort_in c.stands.around.known.W (i + 2) ≡ backslash → ⊥) → (write-is.e ≡ none) × (c.stands.to ≡ i + 2)
  write-none d = inversions.number-none (sort_in c.stands.around.known.W) (Parses (sort_in c.stands.around.known.W)) write-is.number d

  pub write-on : i + 2 ≤ c.stands.to
  write-on =
      by-same (sort_in c.stands.around.known.W (i + 2)) backslash
      (λ b. omega (arith, grows c.stands.around.known.W (suc nestings) (i + 5) (write-some b).e c.stands.to (write-some b).stands))
      (λ d. omega (arith, (write-none d).1))

  write-here : (i + 2) * 8 + 8 ≤ length code
  write-here = omega (arith, write-on, c.stands.unread.loaded.room)

  pub write-string : Strings c.stands.text code (i + 1)
  write-string = string-at code values i c.stands code (i + 1) (omega arith) (omega (arith, write-on)) write-is.text refl refl refl

  module _ (mid : List ℕ) (sp : Spelled c.stands.text code mid (i + 1)) where
    string-linked : Linked code mid (i + 1) STRING
        (length (nth c.stands.around.known.W (i + 1)).covers + characters_part * length (unquoted (take (length (nth c.stands.around.known.W (i + 1)).covers - 2) (drop ((nth c.stands.around.known.W (i + 1)).place + 1) c.stands.text))))
        (link_at (cells_of code) (i + 1))
    unfolding write-string string-at
    string-linked = sp.is write-string

    -- it is still so where its head is
    string-raw : (after : List ℕ) → head_at (cells_of after) (i + 1) ≡ head_at (cells_of mid) (i + 1) → place_at (cells_of after) (i + 1) ≡ place_at (cells_of mid) (i + 1)
        → RawText (ground_of c.stands.around) c.stands.around.known.n (cells_of after) (i + 1) (i + 1)
    string-raw after h p =
        raw-text c.stands.around (cells_of after) (i + 1) (c.stands.around.quoted (i + 1) write-is.text) (ap op_in h ∙ string-linked.op-is) (ap value_in h ∙ string-linked.value-is)
        (p ∙ string-linked.place_is ∙ c.stands.unread.places (i + 1) (omega arith) (omega (arith, write-on)))

    pub string-long : length mid ≡ length code
    string-long = string-linked.kept.long

    module _ (s : ℕ) (es : s ≡ op_at (cells_of mid) (i + 2)) where
      write-next : s ≡ sort_in c.stands.around.known.W (i + 2)
      write-next = es ∙ ap op_in (head-above string-linked.kept (i + 2) (omega arith)) ∙ stands-sort code values i c.stands (i + 2) (omega arith) write-on

      module _ (b : s ≡ backslash) where
        given : inversions.Given (sort_in c.stands.around.known.W) (Parses (sort_in c.stands.around.known.W)) write-is.e (i + 5) c.stands.to
        given = write-some (sym write-next ∙ b)

        write-of : c.stands.s ≡ writes i (i + 1) (some given.e)
        write-of = write-is.is ∙ ap (writes i (i + 1)) given.is

        given-on : i + 5 < c.stands.to
        given-on = grows c.stands.around.known.W (suc nestings) (i + 5) given.e c.stands.to given.stands

        pub write-values : Values mid values (i + 5) i
        write-values = record {
          text = c.stands.text;
          around = c.stands.around;
          e = given.e;
          to = c.stands.to;
          value = given.stands;
          ends = c.stands.ends;
          before = omega arith;
          loaded = loaded-after c.stands.around.known.W code mid (i + 1) (i + 1 + 1) (i + 5) c.stands.to
              (loaded-part c.stands.around.known.W code i c.stands.to (i + 5) c.stands.to c.stands.unread.loaded (omega arith) (omega arith)) string-linked.kept (omega arith);
        }

        pub write-small : i + 5 < word_limit
        write-small = omega (arith, given-on, c.stands.unread.loaded.last)

        written-number : (after : List ℕ) (r : Stepped) → Valued mid values after a_write_of Num (i + 5) i r → Answers c.stands after r
        unfolding simple_faults optional_num RawDoes write-values
        written-number after r v =
            let g = c.stands in
            stated-on code values i g (writes i (i + 1) (some given.e)) write-of after _ mid i (g.to + 1) _ r (v.is write-values a_num refl) string-long (λ x f. f)
            (λ next f.
            stated-fine code values i g (writes i (i + 1) (some given.e)) write-of after next f.none f.next-is
            (kept_on (kept-wider string-linked.kept i (g.to + 1) (omega arith) (omega (arith, write-on))) f.kept)
            (f.written.places i (omega arith) (omega arith) ∙ place-below string-linked.kept i (omega arith))
            (record { valued = f.written.raw; text = string-raw after (f.written.between (i + 1) (omega arith) (omega arith)) (f.written.places (i + 1) (omega arith) (omega arith)); within = omega (arith, write-on) }))

      module _ (d : s ≡ backslash → ⊥) where
        plain : (write-is.e ≡ none) × (c.stands.to ≡ i + 2)
        plain = write-none (λ q. d (write-next ∙ q))

        written-plain : (after : List ℕ) → Linked mid after i a_write 0 (i + 3) → Answers c.stands after (Ok (i + 3))
        unfolding simple_faults optional_num RawDoes
        written-plain after l =
            let g = c.stands in
            let three : i + 3 ≡ g.to + 1 = omega (arith, plain.1) in
            stated-fine code values i g (writes i (i + 1) none) (write-is.is ∙ ap (writes i (i + 1)) plain.0) after (i + 3) refl three
            (kept_on (kept-wider string-linked.kept i (g.to + 1) (omega arith) (omega (arith, plain.1))) (kept-wider l.kept i (g.to + 1) (omega arith) (omega (arith, plain.1))))
            (l.place_is ∙ place-below string-linked.kept i (omega arith))
            (record {
              word = record { is = l.op-is; leaves = l.link-is ∙ three };
              text = string-raw after (head-above l.kept (i + 1) (omega arith)) (place-above l.kept (i + 1) (omega arith));
              within = omega (arith, plain.1);
            })

-- the text that the code reads
module _ (text code values : List ℕ) (i : ℕ) (c : BeginsOf TPWRITE text code values i) where
  pub writes-string : Strings text code (i + 1)
  writes-string = subst (λ (t : List ℕ). Strings t code (i + 1)) c.text-is (write-string code values i c.begins)

  pub writes-next : i + 2 < word_limit
  writes-next = omega (arith, write-on code values i c.begins, c.begins.stands.unread.loaded.last)

  module _ (mid : List ℕ) (sp : Spelled text code mid (i + 1)) where
    spelled-here : Spelled c.begins.stands.text code mid (i + 1)
    spelled-here = subst (λ (t : List ℕ). Spelled t code mid (i + 1)) (sym c.text-is) sp

    pub writes-behind : (i + 2) * 8 + 8 ≤ length mid
    writes-behind = omega (arith, string-long code values i c.begins mid spelled-here, write-here code values i c.begins)

    pub writes-values : (s : ℕ) → s ≡ op_at (cells_of mid) (i + 2) → s ≡ backslash → Values mid values (i + 5) i
    writes-values s es b = write-values code values i c.begins mid spelled-here s es b

    pub writes-fits : (s : ℕ) → s ≡ op_at (cells_of mid) (i + 2) → s ≡ backslash → Fits w64 (i + 5)
    writes-fits s es b = record { fits = omega (arith, write-small code values i c.begins mid spelled-here s es b) }

module _ (text code values : List ℕ) (i : ℕ) (mid : List ℕ) (sp : Spelled text code mid (i + 1)) (s : ℕ) (es : s ≡ op_at (cells_of mid) (i + 2)) where
  pub wrote-number : s ≡ backslash → (after : List ℕ) (r : Stepped) → Valued mid values after a_write_of Num (i + 5) i r → BegunOf TPWRITE text code values after i r
  wrote-number b after r v = record { is = λ c. written-number code values i c.begins mid (spelled-here text code values i c mid sp) s es b after r v }

  pub wrote-plain : (s ≡ backslash → ⊥) → (after : List ℕ) → Linked mid after i a_write 0 (i + 3) → BegunOf TPWRITE text code values after i (Ok (i + 3))
  wrote-plain d after l = record { is = λ c. written-plain code values i c.begins mid (spelled-here text code values i c mid sp) s es d after l }
