-- What was read of a path is the front of the file there.
use Rattle.std.proofs.Common.{◌≡◌, ℕ, ◌≤◌, ◌<◌, List, length, take, Option, Some, None, Result, Ok, Err, IfOk, refl, sym, ap, subst, ◌∙◌, arith}
use Rattle.std.specs.Prelude.{IfSome}
use Rattle.std.proofs.lemmas.List.{length-take, take_all}
use Rattle.ix_files.specs.Opened.{IsOpened}
use Rattle.ix_files.specs.Reading.{IsFront, held_in}
use Rattle.ix_files.specs.Views.{View}

-- what a reader has left is what was read of the path
pub told_held : (view : View) (path : List ℕ) (left : Option (List ℕ)) → (view.honest → IsOpened view path left) → IfSome left (held_in view path)
told_held view path None is = tt
told_held view path (Some bytes) is = λ honest file there.
    let opened = is honest in
    let same : bytes ≡ opened.bytes = cc in
    same ∙ opened.held file there

-- a reader that does not say it is not opened, if all answers were as the files were
pub untold_held : (view : View) (path : List ℕ) (left : Option (List ℕ)) → (view.honest → IsOpened view path left) → (bytes : List ℕ) → left ≡ None → held_in view path bytes
untold_held view path left is bytes none = λ honest file there. let known = (is honest).known in cc

front_read : (view : View) (path : List ℕ) (left : Option (List ℕ)) (space : ℕ) (bytes : List ℕ) → (view.honest → IsOpened view path left) → length bytes ≤ space → IfSome left (λ whole. bytes ≡ take space whole)
    → IsFront (held_in view path) space bytes
front_read view path None space bytes is short cut = record { whole = bytes; held = untold_held view path None is bytes refl; cut = sym (take_all space bytes short) }
front_read view path (Some whole) space bytes is short cut = record { whole = whole; held = told_held view path (Some whole) is; cut = cut }

pub front_given : {B E : Type 0} (items : B → List ℕ) (view : View) (path : List ℕ) (left : Option (List ℕ)) (space : ℕ) (result : Result B E) → (view.honest → IsOpened view path left)
    → IfOk result (λ bytes. length (items bytes) ≤ space) → IfOk result (λ bytes. IfSome left (λ whole. items bytes ≡ take space whole)) → IfOk result (λ bytes. IsFront (held_in view path) space (items bytes))
front_given items view path left space (Ok bytes) is short cut = front_read view path left space (items bytes) is short cut
front_given items view path left space (Err error) is short cut = tt

-- with fewer bytes than there was room for, it is all of the file
pub front_is_whole : (Holds : List ℕ → Type 0) (space : ℕ) (bytes : List ℕ) → IsFront Holds space bytes → (length bytes ≡ space → ⊥) → Holds bytes
front_is_whole Holds space bytes front less =
    let same : length bytes ≡ length (take space front.whole) = ap length front.cut in
    subst Holds (sym (front.cut ∙ take_all space front.whole (omega (arith, length-take space front.whole, same, less)))) front.held

-- a file has as many bytes as its front
pub front_of_longer : (Holds : List ℕ → Type 0) (space most : ℕ) (bytes : List ℕ) → IsFront Holds space bytes → most < length bytes → (whole : List ℕ) × Holds whole × (most < length whole)
front_of_longer Holds space most bytes front long =
    let same : length bytes ≡ length (take space front.whole) = ap length front.cut in
    (front.whole, front.held, omega (arith, length-take space front.whole, same, long))
