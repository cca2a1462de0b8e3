-- What a copy shows, and what threads know of it.
use Rattle.std.specs.Prelude.{◌≡◌, ℕ, ⊤, List, Option, Some, None}
use mathlib.Core.List.{IsPrefix}
use mathlib.Core.Option.{some}
use lib.ListN.{get_elem?}
use Rattle.std.specs.Arc.{arc_value}
use Rattle.ix_live.specs.Histories.{AreOfOneIndex, Known}
use Rattle.ix_live.specs.declared.shown.Shown.{Shown}

-- the stop set and the history that a copy shows
abbrev pub shown_in : Shown → Known
shown_in shown = arc_value shown.current

-- another history of the same live index goes on from this one, publish by publish
abbrev pub GoesOn : Known → Known → Type 0
GoesOn one other = AreOfOneIndex one other × IsPrefix one.history.publishes other.history.publishes

-- a history that is known is a prefix of this one
abbrev pub Agrees : Known → Option Known → Type 0
Agrees shown None = ⊤
Agrees shown (Some known) = GoesOn known shown

-- every history that is known begins the one that is shown
abbrev pub AllAgree : Shown → List (Option Known) → Type 0
AllAgree shown views = (seat : ℕ) (known : Option Known) → get_elem? views seat ≡ some known → Agrees (shown_in shown) known

-- what was known began what was shown, and now the history that is shown is known
abbrev pub Finds : Option Known → Shown → Shown → Option Known → Type 0
Finds known before after now = Agrees (shown_in before) known × (now ≡ Some (shown_in after))

-- a history of this live index is known
abbrev pub KnowsIndex : Option Known → Known → Type 0
KnowsIndex None index = ⊥
KnowsIndex (Some known) index = AreOfOneIndex known index
