-- In which list a statement stands, as the code names the list.
use mathlib.Core.Path.{◌≡◌, ap}
use mathlib.Core.Bool.{Bool, not, ◌||◌}
use denote.Enum.Bare.{sameb}
use Rattle.paper.specs.Checks.{the_body, the_handler, the_undo, in_error, in_undo}
use Rattle.paper.specs.Checks as checks
use Rattle.check_around.specs.contracts.lists.WhichList.{the_type}
use Rattle.check_around.specs.declared.lists.WhichList.{WhichList}
use Rattle.check_around.specs.declared.lists.WhichList.TheVariants.{Body, Handler, Undo}
use Rattle.check_around.specs.Around.{list_code}

-- what a test for one of them gives
abbrev pub is_body : WhichList → Bool
is_body l = sameb the_type l Body

abbrev pub is_handler : WhichList → Bool
is_handler l = sameb the_type l Handler

abbrev pub is_undo : WhichList → Bool
is_undo l = sameb the_type l Undo

module _ (n : WhichList) where
  pub in-handler : (l : checks.WhichList) → n ≡ list_code l → is_handler n ≡ in_error l
  unfolding list_code in_error
  in-handler the_body e = ap is_handler e
  in-handler the_handler e = ap is_handler e
  in-handler the_undo e = ap is_handler e

  pub in-undo : (l : checks.WhichList) → n ≡ list_code l → is_undo n ≡ in_undo l
  unfolding list_code in_undo
  in-undo the_body e = ap is_undo e
  in-undo the_handler e = ap is_undo e
  in-undo the_undo e = ap is_undo e

  -- in neither of them
  pub in-body : (l : checks.WhichList) → n ≡ list_code l → is_body n ≡ not (in_undo l || in_error l)
  unfolding list_code in_undo in_error
  in-body the_body e = ap is_body e
  in-body the_handler e = ap is_body e
  in-body the_undo e = ap is_body e
