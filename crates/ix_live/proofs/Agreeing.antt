-- The rule over the two copies is kept by each step: every history that is known begins the one that is shown.
use Rattle.std.proofs.Common.{◌≡◌, ◌≢◌, ℕ, List, [], ◌∷◌, ◌++◌, Some, None, fold, set, refl, sym, subst, ◌∙◌, ⊎_elim}
use Rattle.std.proofs.lemmas.List.Sums.{fold_push}
use Rattle.std.specs.Prelude.{Option}
use mathlib.Core.Option.{some}
use lib.ListN.{get_elem?}
use Rattle.crossbeam_utils.specs.Register.{Admits, TurnsAt, Turns, Forks, Merges}
use Rattle.atomic_table.proofs.Lists.{at_set, at_snoc}
use Rattle.ix_live.specs.Histories.{Known}
use Rattle.ix_live.specs.Identities.{Agrees, AllAgree, Finds, GoesOn, KnowsIndex, shown_in}
use Rattle.ix_live.specs.declared.shown.Shown.{Shown}
use Rattle.ix_live.proofs.Beginnings.{prefix_self, prefix_trans}

goes_on_self : (one : Known) → GoesOn one one
goes_on_self one = ((refl, refl), prefix_self one.history.publishes)

goes_on_trans : (one two three : Known) → GoesOn one two → GoesOn two three → GoesOn one three
goes_on_trans one two three p q = ((p.0.0 ∙ q.0.0, p.0.1 ∙ q.0.1), prefix_trans one.history.publishes two.history.publishes three.history.publishes p.1 q.1)

pub goes_on_same : (one two : Known) → two ≡ one → GoesOn one two
goes_on_same one two same = subst (GoesOn one) (sym same) (goes_on_self one)

pub goes_on_of : (one two from to : Known) → from ≡ one → to ≡ two → GoesOn one two → GoesOn from to
goes_on_of one two from to p q goes = subst (λ (k : Known). GoesOn k to) (sym p) (subst (GoesOn one) (sym q) goes)

agrees_on : (one two : Known) (known : Option Known) → GoesOn one two → Agrees one known → Agrees two known
agrees_on one two None goes agrees = tt
agrees_on one two (Some known) goes agrees = goes_on_trans known one two agrees goes

-- who knows a beginning of what is shown, still knows the same live index when it knows what is shown
pub knows_on : (known : Option Known) (shown index : Known) → Agrees shown known → KnowsIndex known index → KnowsIndex (Some shown) index
knows_on None shown index agrees knows = absurd knows
knows_on (Some known) shown index agrees knows = (sym agrees.0.0 ∙ knows.0, sym agrees.0.1 ∙ knows.1)

-- a pass more or a changed one, that agrees too
pushed : (x : Shown) (views : List (Option Known)) (known : Option Known) → AllAgree x views → Agrees (shown_in x) known → AllAgree x (views ++ known ∷ [])
pushed x views known all is seat other at =
    ⊎_elim (all seat other) (λ (same : known ≡ other). subst (Agrees (shown_in x)) same is) (at_snoc views known other seat at)

changed : (x : Shown) (views : List (Option Known)) (seat : ℕ) (known : Option Known) → AllAgree x views → Agrees (shown_in x) known → AllAgree x (set views seat known)
changed x views seat known all is place other at =
    ⊎_elim (λ (t : (place ≡ seat) × (known ≡ other)). subst (Agrees (shown_in x)) t.1 is) (λ (t : (place ≢ seat) × (get_elem? views place ≡ some other)). all place other t.1)
    (at_set views seat place known other at)

-- what is shown changes to what goes on from it
carried : (x y : Shown) (views : List (Option Known)) → GoesOn (shown_in x) (shown_in y) → AllAgree x views → AllAgree y views
carried x y views goes all seat known at = agrees_on (shown_in x) (shown_in y) known goes (all seat known at)

pub admits : Admits AllAgree None
admits x views all = pushed x views None all tt

pub starts : (x : Shown) → AllAgree x (None ∷ [])
starts x = pushed x [] None (λ seat known at. absurd cc) tt

pub turns : (seat : ℕ) (known : Option Known) (x y : Shown) → GoesOn (shown_in x) (shown_in y) → TurnsAt AllAgree seat known x y Finds
turns seat known x y goes views all at = (
  Some (shown_in y),
  changed y views seat (Some (shown_in y)) (carried x y views goes all) (goes_on_self (shown_in y)),
  (all seat known at, refl),
)

pub reads : (seat : ℕ) (known : Option Known) → Turns AllAgree seat known (λ (x : Shown). x) Finds
reads seat known x = turns seat known x x (goes_on_self (shown_in x))

pub forks : (seat : ℕ) (known : Option Known) → Forks AllAgree seat known known known
forks seat known x views all at = pushed x (set views seat known) known (changed x views seat known all (all seat known at)) (all seat known at)

pub merges : (seat : ℕ) (known : Option Known) (other : ℕ) (told : Option Known) → Merges AllAgree seat known other told told None
merges seat known other told x views all at apart there =
    let is : Agrees (shown_in x) told =
    ⊎_elim (λ (t : (other ≡ seat) × (told ≡ told)). absurd (apart t.0)) (λ (t : (other ≢ seat) × (get_elem? views other ≡ some told)). all other told t.1) (at_set views seat other told told there) in
    changed x (set views seat told) other None (changed x views seat told all is) tt

-- of editions that are to be shown one after another, the last one is
pub last_shown : {A : Type 0} (value : A → Known) (before : Known) (pending : List A) (last : A) → fold (λ (shown : Known) (next : A). value next) before (pending ++ last ∷ []) ≡ value last
last_shown {A} value before pending last = fold_push (λ (shown : Known) (next : A). value next) before pending last
