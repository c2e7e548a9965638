-- The tests of a class, one by one.
use mathlib.Core.Path.{◌≡◌, sym, ◌∙◌}
use mathlib.Core.Bool.{Bool, true, false, not}
use mathlib.Core.List.{List}
use Prim.Native.Nat.{ℕ, ◌*◌, ◌/◌, ◌≤◌, ◌<◌}
use native.Mathlib.Omega.{arith}
use lib.Dec.{eqb, ltb}
use lib.ListN.{length}
use borrow.Author.Tests.{lt-ltb, le-ltb, not-true, not-false}
use Rattle.paper.specs.Answer as paper
use Rattle.paper.specs.Answer.{store_words, record_size}
use Rattle.paper.specs.Declarations.{module_word_limit}
use Rattle.layout.specs.Named.{store_bytes}
use Rattle.classes.specs.Classes.{sum, lengths_of, class_limit, record_words, data_bytes, ClassQuestion, class_question_of, add_up, too_many, too_short, class_refusal}
use Rattle.call_records.proofs.Depths.{is_bad}
use Rattle.call_class.specs.Classes.{lent}
use Rattle.call_class.specs.Parts.{sized}
use Rattle.call_class.proofs.Lengths.{count-lengths, word_count}

module _ (texts lengths : List ℕ) (depth : ℕ) (code values records' data' : List ℕ) where
  abbrev asked : ClassQuestion
  asked = sized texts lengths depth code values records' data'

  -- how many modules
  abbrev n : ℕ
  n = length (lengths_of lengths)

  counted : n ≡ length lengths / 4
  counted = count-lengths lengths

  pub small-code : length code < store_bytes → 1 ≡ class_refusal asked
  unfolding sized class_question_of lent class_refusal
  small-code h = sym (rw (lt-ltb (length (paper.cells_of code)) store_words (omega (arith, word_count code)), class_refusal))

  module _ (c : store_bytes ≤ length code) where
    code-lent : ltb (length (paper.cells_of code)) store_words ≡ false
    code-lent = le-ltb (length (paper.cells_of code)) store_words (omega (arith, word_count code))

    pub small-values : length values < store_bytes → 1 ≡ class_refusal asked
    unfolding sized class_question_of lent class_refusal
    small-values h = sym (rw (code-lent, lt-ltb (length (paper.cells_of values)) store_words (omega (arith, word_count values)), class_refusal))

    module _ (v : store_bytes ≤ length values) where
      values-lent : ltb (length (paper.cells_of values)) store_words ≡ false
      values-lent = le-ltb (length (paper.cells_of values)) store_words (omega (arith, word_count values))

      pub wrong-depth : (d : Bool) → d ≡ is_bad depth → d ≡ true → 2 ≡ class_refusal asked
      unfolding sized class_question_of lent class_refusal
      wrong-depth d b t = sym (rw (code-lent, values-lent, class_refusal) (rw (sym b ∙ t)))

      module _ (d : Bool) (is-bad : d ≡ is_bad depth) (good-depth : d ≡ false) where
        pub not-adding : (t : Bool) → t ≡ eqb (sum (lengths_of lengths)) (length texts) → not t ≡ true → 20 ≡ class_refusal asked
        unfolding sized class_question_of lent add_up class_refusal
        not-adding t a f = sym (rw (code-lent, values-lent, class_refusal) (rw (sym is-bad ∙ good-depth) (rw (sym a ∙ not-true t f))))

        module _ (t : Bool) (adds : t ≡ eqb (sum (lengths_of lengths)) (length texts)) (met : not t ≡ false) where
          -- what is left of the tests
          lists : class_refusal asked ≡ elim (too_many asked) [ true ↦ 21 | false ↦ elim (too_short asked) [ true ↦ 27 | false ↦ 0 ] ]
          unfolding sized class_question_of lent add_up class_refusal
          lists = rw (code-lent, values-lent, class_refusal) (rw (sym is-bad ∙ good-depth) (rw (sym adds ∙ not-false t met)))

          pub too-many : class_limit < length lengths / 4 → 21 ≡ class_refusal asked
          unfolding sized class_question_of lent too_many
          too-many h = sym (lists ∙ rw (lt-ltb class_limit n (omega (arith, counted))))

          module _ (m : length lengths / 4 ≤ class_limit) where
            few : ltb class_limit n ≡ false
            few = le-ltb class_limit n (omega (arith, counted))

            pub short-records : length records' < record_size * (length lengths / 4) → 27 ≡ class_refusal asked
            unfolding sized class_question_of lent too_many too_short
            short-records h = sym (lists ∙ rw (few, lt-ltb (length records' / 8) (record_words * n) (omega (arith, counted))))

            module _ (r : record_size * (length lengths / 4) ≤ length records') where
              records-lent : ltb (length records' / 8) (record_words * n) ≡ false
              records-lent = le-ltb (length records' / 8) (record_words * n) (omega (arith, counted))

              pub short-data : length data' < data_bytes * (length lengths / 4) → 27 ≡ class_refusal asked
              unfolding sized class_question_of lent too_many too_short
              short-data h = sym (lists ∙ rw (few, records-lent, lt-ltb (length (paper.cells_of data')) (module_word_limit * n) (omega (arith, counted, word_count data'))))

              pub not-refused : data_bytes * (length lengths / 4) ≤ length data' → 0 ≡ class_refusal asked
              unfolding sized class_question_of lent too_many too_short
              not-refused h = sym (lists ∙ rw (few, records-lent, le-ltb (length (paper.cells_of data')) (module_word_limit * n) (omega (arith, counted, word_count data'))))
