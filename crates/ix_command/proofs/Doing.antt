-- What was done of a line, or refused of it, and what that leaves of the files, by what its own command says.
use Rattle.std.proofs.Common.{◌≡◌, ◌⊎◌, ℕ, arith, inl, inr, List, Option, Some, None, Result, Ok, Err, OnOk, OnErr, IfOk, IfErr, refl, subst, sym}
use Rattle.std.specs.Io.KnownBytes.{Keeps}
use Rattle.ix_command.specs.Files.{Keeping}
use Rattle.ix_command.specs.Statuses.{IsDone, IsLineRefused, IsUndone, KeepsArchive, LeavesFiles}
use Rattle.ix_command.specs.StoredArchives.{Storing}
use Rattle.ix_files.specs.Reading.{Holding}
use Rattle.ix_files.specs.Slots.{Slots, Stops}
use Rattle.ix_files.specs.Views.{LeavesOnly, View}
use Rattle.ix_line.specs.declared.line.Line.{Line}
use Rattle.ix_command.specs.declared.refusal.Refusal.{Refusal}

pub keeps_itself : (known : Option (List ℕ)) → Keeps known known
keeps_itself None = tt
keeps_itself (Some bytes) = refl

-- what is done of a line, or refused of it, is so of the line that it is
module _ (holds saves : Holding) (kept : Keeping) (stored : Storing) (old new : Option (List ℕ)) (line made : Line) (is : line ≡ made) where
  pub done_of : (result : Result ℕ Refusal) → IfOk result (IsDone holds saves kept stored made old new) → IfOk result (IsDone holds saves kept stored line old new)
  done_of result done = subst (λ (l : Line). IfOk result (IsDone holds saves kept stored l old new)) (sym is) done

module _ (holds : Holding) (stored : Storing) (old new : Option (List ℕ)) (line made : Line) (is : line ≡ made) where
  pub refused_of : (result : Result ℕ Refusal) → IfErr result (IsLineRefused holds stored made old new) → IfErr result (IsLineRefused holds stored line old new)
  refused_of result refused = subst (λ (l : Line). IfErr result (IsLineRefused holds stored l old new)) (sym is) refused

-- and what it leaves of the files
module _ (old new : View) (line made : Line) (is : line ≡ made) where
  pub leaves_of : (new.honest → LeavesFiles made old new) → new.honest → LeavesFiles line old new
  leaves_of leaves honest = subst (λ (l : Line). LeavesFiles l old new) (sym is) (leaves honest)

  pub keeps_of : (holds : Holding) → (new.honest → KeepsArchive holds made old new) → new.honest → KeepsArchive holds line old new
  keeps_of holds keeps honest = subst (λ (l : Line). KeepsArchive holds l old new) (sym is) (keeps honest)

  pub undone_of : (holds : Holding) (kept : Keeping) (result : Result ℕ Refusal) → OnErr result (new.honest → IsUndone holds kept made old new) → OnErr result (new.honest → IsUndone holds kept line old new)
  undone_of holds kept result undone = subst (λ (l : Line). OnErr result (new.honest → IsUndone holds kept l old new)) (sym is) undone

-- what is so whatever came of it
pub after_error : {T : Type 0} (P : Type 0) (result : Result T Refusal) → P → OnErr result P
after_error P (Ok x) is = tt
after_error P (Err told) is = is

-- a command that writes one file, and leaves the standard output
pub file_done : {T : Type 0} (P : Type 0) (known : Option (List ℕ)) (done : Result T Refusal) (result : Result ℕ Refusal) → OnOk done (result ≡ Ok 1) → IfErr done (λ refusal. result ≡ Err refusal) → OnOk done P
    → IfOk result (λ count. P × Keeps known known × (count ≡ 1))
file_done P known (Ok x) result one refused holds = subst (λ (r : Result ℕ Refusal). IfOk r (λ count. P × Keeps known known × (count ≡ 1))) (sym one) (holds, keeps_itself known, refl)
file_done P known (Err refusal) result one refused holds = subst (λ (r : Result ℕ Refusal). IfOk r (λ count. P × Keeps known known × (count ≡ 1))) (sym refused) tt

pub file_refused : {T : Type 0} (P : Refusal → Type 0) (known : Option (List ℕ)) (done : Result T Refusal) (result : Result ℕ Refusal) → OnOk done (result ≡ Ok 1) → IfErr done (λ refusal. result ≡ Err refusal) → IfErr done P
    → IfErr result (λ refusal. P refusal × Keeps known known)
file_refused P known (Ok x) result one refused because = subst (λ (r : Result ℕ Refusal). IfErr r (λ refusal. P refusal × Keeps known known)) (sym one) tt
file_refused P known (Err refusal) result one refused because = subst (λ (r : Result ℕ Refusal). IfErr r (λ told. P told × Keeps known known)) (sym refused) (because, keeps_itself known)

pub file_undone : {T : Type 0} (P : Type 0) (done : Result T Refusal) (result : Result ℕ Refusal) → OnOk done (result ≡ Ok 1) → OnErr done P → OnErr result P
file_undone P (Ok x) result one undone = subst (λ (r : Result ℕ Refusal). OnErr r P) (sym one) tt
file_undone P (Err refusal) result one undone = after_error P result undone

-- before a call that changes files, a stop leaves them as they are
pub nothing_yet : (old : View) → ((left : Slots) → old.left_since old.moment left → Stops old.slots left) → LeavesOnly (Stops old.slots) old old
nothing_yet old only = record {
  later = omega arith;
  each = only;
  before = λ t left le was. inl was;
}

-- a command that leaves the standard output
pub ok_too : (P : ℕ → Type 0) (known : Option (List ℕ)) (result : Result ℕ Refusal) → IfOk result P → IfOk result (λ count. P count × Keeps known known)
ok_too P known (Ok count) holds = (holds, keeps_itself known)
ok_too P known (Err told) holds = tt

pub err_too : (P : Refusal → Type 0) (known : Option (List ℕ)) (result : Result ℕ Refusal) → IfErr result P → IfErr result (λ told. P told × Keeps known known)
err_too P known (Ok count) holds = tt
err_too P known (Err told) holds = (holds, keeps_itself known)

-- what is so by one of two reasons
pub ok_first : (P Q : ℕ → Type 0) (result : Result ℕ Refusal) → IfOk result P → IfOk result (λ count. P count ⊎ Q count)
ok_first P Q (Ok count) is = inl is
ok_first P Q (Err told) is = tt

pub ok_second : (P Q : ℕ → Type 0) (result : Result ℕ Refusal) → IfOk result Q → IfOk result (λ count. P count ⊎ Q count)
ok_second P Q (Ok count) is = inr is
ok_second P Q (Err told) is = tt

pub err_first : (P Q : Refusal → Type 0) (result : Result ℕ Refusal) → IfErr result P → IfErr result (λ told. P told ⊎ Q told)
err_first P Q (Ok count) is = tt
err_first P Q (Err told) is = inl is

pub err_second : (P Q : Refusal → Type 0) (result : Result ℕ Refusal) → IfErr result Q → IfErr result (λ told. P told ⊎ Q told)
err_second P Q (Ok count) is = tt
err_second P Q (Err told) is = inr is
