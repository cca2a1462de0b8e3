-- What the exit status says of a line that was done.
use Rattle.std.proofs.Common.{◌≡◌, ◌≤◌, ℕ, zero, suc, Bool, true, false, IsTrue, List, Option, sym, refl, arith, true≢false, inl, inr, ◌⊎◌}
use Rattle.std.specs.Prelude.{◌↔◌}
use Rattle.clap.specs.Walk.{Text}
use Rattle.ix_command.specs.Files.{Keeping}
use Rattle.ix_command.specs.StandardInput.{ReadsInputTwice}
use Rattle.ix_command.specs.Statuses.{FindsFaults, FindsNoFault, FindsNone, FindsSome, IsCheck, IsDone, IsUndone, status_of}
use Rattle.ix_command.specs.StoredArchives.{Storing}
use Rattle.ix_files.specs.Reading.{Holding}
use Rattle.ix_files.specs.Views.{View}
use Rattle.ix_line.specs.Lines.{Reads}
use Rattle.ix_line.specs.declared.line.Line.{Line}
use Rattle.ix_line.specs.declared.line.Line.TheVariants.{Add, Ask, Build, Check, Live, Merge, Remove, Run, Search, Terms, Upgrade}

pub status_small : (checks : Bool) (count : ℕ) → status_of checks count ≤ 2
status_small false zero = omega arith
status_small false (suc n) = omega arith
status_small true zero = omega arith
status_small true (suc n) = omega arith

module _ (holds saves : Holding) (kept : Keeping) (stored : Storing) (words : List Text) (old new : Option Text) (line : Line) (read : Reads words line) (once : ¬ (ReadsInputTwice line)) where
  pub status_found : (checks : Bool) (count : ℕ) → IsTrue checks ↔ IsCheck line → IsDone holds saves kept stored line old new count → status_of checks count ≡ 0
      → FindsSome holds saves kept stored words old new ⊎ FindsNoFault holds saves kept stored words old new
  status_found false zero tells done e = cc
  status_found false (suc n) tells done e = inl (record {
    line = line;
    count = suc n;
    read = read;
    once = once;
    asks = λ is. true≢false (sym (tells.1 is));
    some = omega arith;
    done = done;
  })
  status_found true zero tells done e = inr (record { line = line; read = read; once = once; checks = tells.0 refl; done = done })
  status_found true (suc n) tells done e = cc

  pub status_nothing : (checks : Bool) (count : ℕ) → IsTrue checks ↔ IsCheck line → IsDone holds saves kept stored line old new count → status_of checks count ≡ 1 → FindsNone holds saves kept stored words old new
  status_nothing false zero tells done e = record { line = line; read = read; once = once; asks = λ is. true≢false (sym (tells.1 is)); done = done }
  status_nothing false (suc n) tells done e = cc
  status_nothing true zero tells done e = cc
  status_nothing true (suc n) tells done e = cc

  pub status_faults : (checks : Bool) (count : ℕ) → IsTrue checks ↔ IsCheck line → IsDone holds saves kept stored line old new count → status_of checks count ≡ 2 → FindsFaults holds saves kept stored words old new
  status_faults false zero tells done e = cc
  status_faults false (suc n) tells done e = cc
  status_faults true zero tells done e = cc
  status_faults true (suc n) tells done e = record { line = line; count = suc n; read = read; once = once; checks = tells.0 refl; some = omega arith; done = done }

-- `check` asks for no file
pub check_undone : (holds : Holding) (kept : Keeping) (line : Line) (old new : View) → IsCheck line → IsUndone holds kept line old new
check_undone holds kept (Check paths) old new is = tt
check_undone holds kept (Ask stop plan collection query) old new is = absurd is
check_undone holds kept (Build stop plan collection index) old new is = absurd is
check_undone holds kept (Add stop plan archive collection) old new is = absurd is
check_undone holds kept (Remove archive names) old new is = absurd is
check_undone holds kept (Live stop plan searchers script) old new is = absurd is
check_undone holds kept (Search index query trust) old new is = absurd is
check_undone holds kept (Terms index pattern trust) old new is = absurd is
check_undone holds kept (Run stop first collection run) old new is = absurd is
check_undone holds kept (Merge index inputs) old new is = absurd is
check_undone holds kept (Upgrade one other) old new is = absurd is
