-- What one try for a place does to a desk.
use Rattle.std.specs.Prelude.{◌≡◌, ◌<◌, [], ◌∷◌}
use Rattle.ix_board.specs.declared.desk.Attempt.{Attempt}
use Rattle.ix_board.specs.declared.desk.Attempt.TheVariants.{Claimed, Taken, Done}
use Rattle.ix_board.specs.declared.step.Step.TheVariants.{Claim, Look}
use Rattle.ix_board.specs.Desks.{DeskView, with_steps, HasSeenAll}

-- The desk claimed the place, looked at it, or had seen all places before.
abbrev pub IsAttempt : {P : Type 0} → DeskView P → DeskView P → Attempt → Type 0
IsAttempt old new (Claimed k) = (k < old.board.count) × (new ≡ with_steps old (Claim k ∷ []))
IsAttempt old new (Taken k) = new ≡ with_steps old (Look k ∷ [])
IsAttempt old new Done = (new ≡ old) × HasSeenAll old
