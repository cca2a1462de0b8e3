-- What is left of the current list comes before what is taken, and with it what was given is closed.
use Rattle.std.proofs.Common.{◌≢◌, ℕ, ◌^◌, List, [], ◌∷◌, ◌++◌, length, Some, None, string_bytes, refl, sym, ap, subst, ◌∙◌, arith}
use Rattle.std.proofs.KnownBytes.{Consumes-kept}
use Rattle.std.specs.List.{flat_map}
use Rattle.std.proofs.lemmas.Result.{err_from_is_err_and}
use Rattle.ix_text.specs.Parts.{DictionaryEntry}
use Rattle.ix_vbyte.specs.Postings.{list_bytes}
use Rattle.ix_run_text.specs.Heads.{heading_of}
use Rattle.ix_run_text.specs.Inputs.{bytes_held, known_left}
use Rattle.ix_run_text.specs.Reading.{Checked, LieAhead, LieBehind, Told, bytes_ahead, postings_ahead, standing}
use Rattle.ix_run_text.specs.RunText.{term_bytes}
use Rattle.ix_run_text.specs.Sources.{entry_with}
use Rattle.ix_run_text.specs.declared.run_reader.Place.TheVariants.{Ended}
use Rattle.ix_run_text.proofs.ReadNext.{TakesEnd, TakesTerm, ahead_begun, ahead_over, begun, begun_ahead, behind_begun, behind_over, end_lies_next, entry_lies_next, known_kept, list_lies_next, over, over_ahead}
use Rattle.ix_run_text.proofs.CheckedLists.{drained_on, list_checked, none_checked, same_room}
use Rattle.ix_postings.proofs.FitPostings.{near_fit}
use Rattle.ix_run_text.proofs.ReadSkips.{closed-skipped, none_left_of}
use Rattle.ix_run_text.proofs.SpelledSteps.{list_spelled, none_spelled}
use Rattle.ix_run_text.proofs.SureReaders.{is_sure}
use Rattle.ix_run_text.proofs.TakenLists.{none_ahead}
use Rattle.ix_run_text.proofs.run_reader.RunReader.go_on.Goals as goal

pub returns-in_err-found-clause-accepted : goal.returns-in_err-found-clause-accepted
returns-in_err-found-clause-accepted g c [] postings faces =
    let p = err_from_is_err_and c.from_residual.result c.from_residual.ensures.1 in
    let ahead = (c.skip.ensures.skipped.accepted postings [] faces).1 in
    let going : c.skip.new.self.place ≢ Ended = λ e. c.requires.going (sym c.skip.ensures.place ∙ e) in
    rw (p.1, p.2) (c.in_err-found.ensures.ended (end_lies_next (standing c.skip.new.self) (known_left g.R.Read.remaining c.skip.new.self.input) going ahead))
returns-in_err-found-clause-accepted g c (entry ∷ entries) postings faces =
    let p = err_from_is_err_and c.from_residual.result c.from_residual.ensures.1 in
    let ahead = (c.skip.ensures.skipped.accepted postings (entry ∷ entries) faces).1 in
    let next = entry_lies_next (standing c.skip.new.self) (known_left g.R.Read.remaining c.skip.new.self.input) entry entries ahead in
    rw (p.1, p.2) (c.in_err-found.ensures.accepted entry.term (length entry.postings) (length (list_bytes entry.postings)) (bytes_ahead (list_bytes entry.postings) entries) next.fits next.spelled)

pub returns-in_default-clause-begun : goal.returns-in_default-clause-begun
returns-in_default-clause-begun g c =
    let self = c.args.self.now in
    let mid = c.skip.new.self in
    let skips = c.skip.ensures.skipped in
    let left = known_left g.R.Read.remaining mid.input in
    let after = known_left g.R.Read.remaining c.read_term.new.input in
    let last = string_bytes c.read_term.new.term in
    let held = bytes_held c.read_term.new.input in
    let checked : Checked = record { marks = mid.marks; held = held } in
    let drained = c.skip.ensures.drained in
    let end = rw c.in_default.is at c.in_ok-found.ensures.end in
    let taken = rw c.in_default.is at c.in_ok-found.ensures.taken in
    let told = drained_on (heading_of mid.head).rows mid.marks mid.next mid.documents mid.bytes (bytes_held mid.input) held in
    let takes : TakesEnd (standing mid) left after = record { drained = drained; empty = none_ahead mid drained; taken = taken; end = end.0 } in (
      refl,
      record {
        skipped = postings_ahead self;
        yielded = (skips.yielded [] [] (ahead_over (standing mid) last end.1 checked left after takes)).1;
        given = λ finished at_hand read.
            let P : List DictionaryEntry → Type 0 = λ es. LieBehind (over (standing mid) last end.1 checked) es None in
            subst P (closed-skipped finished at_hand (postings_ahead self))
            (behind_over (standing mid) last end.1 checked (λ numbers known. told numbers drained known) drained finished _ (skips.given finished at_hand read));
        none = none_left_of self;
      },
    )

pub returns-in_default-clause-accepted : goal.returns-in_default-clause-accepted
returns-in_default-clause-accepted g c [] postings faces = refl
returns-in_default-clause-accepted g c (entry ∷ entries) postings faces =
    let ahead = (c.skip.ensures.skipped.accepted postings (entry ∷ entries) faces).1 in
    let next = entry_lies_next (standing c.skip.new.self) (known_left g.R.Read.remaining c.skip.new.self.input) entry entries ahead in
    let found = c.in_ok-found.ensures.accepted entry.term (length entry.postings) (length (list_bytes entry.postings)) (bytes_ahead (list_bytes entry.postings) entries) next.fits next.spelled in
    absurd (rw c.in_default.is at found)

pub returns-in_err-after-clause-accepted : goal.returns-in_err-after-clause-accepted
returns-in_err-after-clause-accepted g c [] postings faces =
    let ahead = (c.skip.ensures.skipped.accepted postings [] faces).1 in
    let going : c.skip.new.self.place ≢ Ended = λ e. c.requires.going (sym c.skip.ensures.place ∙ e) in
    let none = c.in_ok-found.ensures.ended (end_lies_next (standing c.skip.new.self) (known_left g.R.Read.remaining c.skip.new.self.input) going ahead) in
    let some = c.in-Some.is in
    absurd (cc)
returns-in_err-after-clause-accepted g c (entry ∷ entries) postings faces =
    let mid = c.skip.new.self in
    let rows = (heading_of mid.head).rows in
    let ahead = (c.skip.ensures.skipped.accepted postings (entry ∷ entries) faces).1 in
    let next = entry_lies_next (standing mid) (known_left g.R.Read.remaining mid.input) entry entries ahead in
    let found = rw c.in-Some.is at (c.in_ok-found.ensures.accepted entry.term (length entry.postings) (length (list_bytes entry.postings)) (bytes_ahead (list_bytes entry.postings) entries) next.fits next.spelled) in
    let known = none_checked rows mid.marks mid.next mid.documents mid.bytes (bytes_held mid.input) _ c.skip.ensures.drained ahead.behind.marked in
    let lies = list_lies_next (standing mid) (known_left g.R.Read.remaining mid.input) entry entries ahead in
    let p = err_from_is_err_and c.from_residual-in_err-after.result c.from_residual-in_err-after.ensures.1 in
    rw (p.1, p.2) (c.in_err-after.ensures.accepted rows _ entry.postings (flat_map term_bytes entries ++ 128 ∷ []) mid.table known.0 lies.0 lies.1 (sym found.1) (sym found.2) found.3)

pub invariant_of-self-in-Break-branch-2 : goal.invariant_of-self-in-Break-branch-2
invariant_of-self-in-Break-branch-2 g c =
    let mid = c.skip.new.self in
    let same = same_room c.read_list.ensures.room in
    let empty = none_ahead mid c.skip.ensures.drained in
    record {
      table = mid.table;
      few_documents = mid.few_documents;
      few_tokens = mid.few_tokens;
      narrow = (let narrow = mid.narrow in omega (arith, narrow, same));
      room = (let room = mid.room in omega (arith, room, same));
      far = mid.far;
      drained = mid.drained;
      held = omega (arith, empty);
      left = none_spelled (bytes_held mid.input) _ mid.left empty;
    }

pub invariant_of-self : goal.invariant_of-self
invariant_of-self g c =
    let mid = c.skip.new.self in
    record {
      table = mid.table;
      few_documents = mid.few_documents;
      few_tokens = mid.few_tokens;
      narrow = mid.narrow;
      room = mid.room;
      far = mid.far;
      drained = mid.drained;
      held = (let empty = none_ahead mid c.skip.ensures.drained in omega (arith, empty));
      left = none_spelled (bytes_held mid.input) _ mid.left (none_ahead mid c.skip.ensures.drained);
    }

pub invariant_of-self-2 : goal.invariant_of-self-2
invariant_of-self-2 g c =
    let mid = c.skip.new.self in
    let rows = (heading_of mid.head).rows in
    let list = c.in_ok-after.ensures.read rows mid.table in
    let same = same_room c.in_ok-after.ensures.room in
    record {
      table = mid.table;
      few_documents = mid.few_documents;
      few_tokens = mid.few_tokens;
      narrow = (let narrow = mid.narrow in omega (arith, narrow, same));
      room = (let room = mid.room in omega (arith, room, same));
      far = (let near = near_fit rows (2 ^ 28) mid.few_documents mid.few_tokens 0 list.postings (omega arith) list.fit in let is = list.next_is in omega (arith, near, is));
      drained = λ not. absurd (not refl);
      held = c.in_ok-after.ensures.held;
      left = list_spelled rows mid.few_documents mid.few_tokens list;
    }

pub returns-clause-begun : goal.returns-clause-begun
returns-clause-begun g c =
    let self = c.args.self.now in
    let mid = c.skip.new.self in
    let rows = (heading_of mid.head).rows in
    let skips = c.skip.ensures.skipped in
    let drained = c.skip.ensures.drained in
    let left = known_left g.R.Read.remaining mid.input in
    let after = known_left g.R.Read.remaining c.read_list.new.input in
    let held = bytes_held c.read_list.new.input in
    let term = string_bytes c.read_term.new.term in
    let documents = c.in-Some.counts.documents in
    let bytes = c.in-Some.counts.bytes in
    let checked : Checked = record { marks = c.read_list.new.marks; held = held } in
    let list = c.in_ok-after.ensures.read rows mid.table in
    let told : (numbers : List ℕ) → Told (standing mid) numbers → Told (begun (standing mid) term documents bytes checked) numbers = λ numbers known.
    let before = none_checked rows mid.marks mid.next mid.documents mid.bytes (bytes_held mid.input) numbers drained known in
    list_checked rows mid.marks c.read_list.new.marks held bytes documents c.in_ok-after.after numbers list before.0 before.1 in
    let fits = rw c.in-Some.is at c.in_ok-found.ensures.fits in
    let taken = rw c.in-Some.is at c.in_ok-found.ensures.taken in
    let takes : TakesTerm (standing mid) term documents bytes left after = record {
      drained = drained;
      empty = none_ahead mid drained;
      going = λ e. c.requires.going (sym c.skip.ensures.place ∙ e);
      fits = fits;
      taken = Consumes-kept left (known_left g.R.Read.remaining c.read_term.new.input) after _ taken c.in_ok-after.ensures.kept;
    } in (
      refl,
      record {
        skipped = postings_ahead self;
        yielded = λ postings entries may.
            (skips.yielded [] (entry_with term postings ∷ entries) (ahead_begun (standing mid) term documents bytes checked left after takes told postings entries may)).1;
        given = λ finished at_hand read.
            let P : List DictionaryEntry → Type 0 = λ es. LieBehind (begun (standing mid) term documents bytes checked) es (Some (entry_with term [])) in
            subst P (closed-skipped finished at_hand (postings_ahead self))
            (behind_begun (standing mid) term documents bytes checked left after takes told finished _ (skips.given finished at_hand read));
        none = none_left_of self;
      },
    )

pub returns-clause-accepted : goal.returns-clause-accepted
returns-clause-accepted g c [] postings faces =
    let ahead = (c.skip.ensures.skipped.accepted postings [] faces).1 in
    let going : c.skip.new.self.place ≢ Ended = λ e. c.requires.going (sym c.skip.ensures.place ∙ e) in
    let none = c.in_ok-found.ensures.ended (end_lies_next (standing c.skip.new.self) (known_left g.R.Read.remaining c.skip.new.self.input) going ahead) in
    let some = c.in-Some.is in
    absurd (cc)
returns-clause-accepted g c (entry ∷ entries) postings faces =
    let mid = c.skip.new.self in
    let rows = (heading_of mid.head).rows in
    let drained = c.skip.ensures.drained in
    let left = known_left g.R.Read.remaining mid.input in
    let between = known_left g.R.Read.remaining c.read_term.new.input in
    let after = known_left g.R.Read.remaining c.read_list.new.input in
    let held = bytes_held c.read_list.new.input in
    let term = string_bytes c.read_term.new.term in
    let documents = c.in-Some.counts.documents in
    let bytes = c.in-Some.counts.bytes in
    let checked : Checked = record { marks = c.read_list.new.marks; held = held } in
    let list = c.in_ok-after.ensures.read rows mid.table in
    let told : (numbers : List ℕ) → Told (standing mid) numbers → Told (begun (standing mid) term documents bytes checked) numbers = λ numbers known.
    let before = none_checked rows mid.marks mid.next mid.documents mid.bytes (bytes_held mid.input) numbers drained known in
    list_checked rows mid.marks c.read_list.new.marks held bytes documents c.in_ok-after.after numbers list before.0 before.1 in
    let ahead = (c.skip.ensures.skipped.accepted postings (entry ∷ entries) faces).1 in
    let next = entry_lies_next (standing mid) left entry entries ahead in
    let found = rw c.in-Some.is at (c.in_ok-found.ensures.accepted entry.term (length entry.postings) (length (list_bytes entry.postings)) (bytes_ahead (list_bytes entry.postings) entries) next.fits next.spelled) in
    let fits = rw c.in-Some.is at c.in_ok-found.ensures.fits in
    let taken = rw c.in-Some.is at c.in_ok-found.ensures.taken in
    let takes : TakesTerm (standing mid) term documents bytes left after = record {
      drained = drained;
      empty = none_ahead mid drained;
      going = λ e. c.requires.going (sym c.skip.ensures.place ∙ e);
      fits = fits;
      taken = Consumes-kept left between after _ taken c.in_ok-after.ensures.kept;
    } in
    let P : List ℕ → Type 0 = λ t. LieAhead (standing mid) left [] (entry_with t entry.postings ∷ entries) in
    record {
      entry = entry;
      rest = entries;
      parts = refl;
      begun = ap (λ (t : List ℕ). Some t) found.0;
      ahead = begun_ahead (standing mid) term documents bytes checked left after takes told entry.postings entries (subst P (sym found.0) ahead) found.1 found.2 (known_kept between after _ c.in_ok-after.ensures.kept found.3);
    }

pub returns-in_default-clause-sure : goal.returns-in_default-clause-sure
returns-in_default-clause-sure g c sure =
    let mid = c.skip.new.self in
    let left = known_left g.R.Read.remaining mid.input in
    let after = known_left g.R.Read.remaining c.read_term.new.input in
    let held = bytes_held c.read_term.new.input in
    let checked : Checked = record { marks = mid.marks; held = held } in
    let drained = c.skip.ensures.drained in
    let end = rw c.in_default.is at c.in_ok-found.ensures.end in
    let taken = rw c.in_default.is at c.in_ok-found.ensures.taken in
    let told = drained_on (heading_of mid.head).rows mid.marks mid.next mid.documents mid.bytes (bytes_held mid.input) held in
    let takes : TakesEnd (standing mid) left after = record { drained = drained; empty = none_ahead mid drained; taken = taken; end = end.0 } in
    let ahead = (c.skip.ensures.skipped.accepted sure.postings sure.entries sure.faces).1 in
    let none = returns-in_default-clause-accepted g c sure.entries sure.postings sure.faces in
    let P : List DictionaryEntry → Type 0 = λ es. LieAhead (standing mid) left [] es in
    is_sure g.R.Read.remaining _ [] []
    (over_ahead (standing mid) (string_bytes c.read_term.new.term) end.1 checked (λ numbers known. told numbers drained known) left after takes (subst P none ahead))

pub returns-clause-sure : goal.returns-clause-sure
returns-clause-sure g c sure =
    let first = returns-clause-accepted g c sure.entries sure.postings sure.faces in
    is_sure g.R.Read.remaining _ first.entry.postings first.rest first.ahead
