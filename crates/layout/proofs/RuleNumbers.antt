-- A rule's number tells it from every other.
use mathlib.Core.Path.{◌≡◌, refl, sym, ap, ◌∙◌}
use mathlib.Core.List.{List, [], ◌∷◌}
use Prim.Native.Nat.{ℕ}
use lib.ListN.{get_or}
use Rattle.layout.specs.Broken.{number_of}
use Rattle.layout.specs.declared.rules.Rule.{Rule}
use Rattle.layout.specs.declared.rules.Rule.TheVariants.{SmallStore, WrongDepth, LongText, BadByte, Malformed, TooLarge, ManyWords, NoForm, DeepNesting, TakenName, UnknownName, WrongKind, WrongType, WrongCount, NoValue, TooMany, Barred, NoMain, HidingLoop}

-- the rules in the order of their numbers, which begin at 1
abbrev in_order : List Rule
in_order =
    SmallStore ∷ SmallStore ∷ WrongDepth ∷ LongText ∷ BadByte ∷ Malformed ∷ TooLarge ∷ ManyWords ∷ NoForm ∷ DeepNesting ∷ TakenName ∷ UnknownName ∷ WrongKind ∷
    WrongType ∷ WrongCount ∷ NoValue ∷ TooMany ∷ Barred ∷ NoMain ∷ HidingLoop ∷ []

-- the rule that has a number
abbrev pub rule_of : ℕ → Rule
rule_of n = get_or in_order n SmallStore

pub rule-is : (r : Rule) → rule_of (number_of r) ≡ r
rule-is SmallStore = refl
rule-is WrongDepth = refl
rule-is LongText = refl
rule-is BadByte = refl
rule-is Malformed = refl
rule-is TooLarge = refl
rule-is ManyWords = refl
rule-is NoForm = refl
rule-is DeepNesting = refl
rule-is TakenName = refl
rule-is UnknownName = refl
rule-is WrongKind = refl
rule-is WrongType = refl
rule-is WrongCount = refl
rule-is NoValue = refl
rule-is TooMany = refl
rule-is Barred = refl
rule-is NoMain = refl
rule-is HidingLoop = refl

pub number-injective : (a b : Rule) → number_of a ≡ number_of b → a ≡ b
number-injective a b h = sym (rule-is a) ∙ ap rule_of h ∙ rule-is b
