-- The list that is copied is what is left, and with it what lay behind it is what lies ahead.
use Rattle.std.proofs.Common.{◌<◌, ℕ, ◌+◌, ◌++◌, List, [], Some, length, append-nil, inr, refl, sym, subst, ap, take, ◌∙◌, arith, length-append}
use Rattle.ix_text.specs.Parts.{DictionaryEntry, Posting}
use Rattle.ix_vbyte.specs.Postings.{list_bytes_from, shifted}
use Rattle.ix_vbyte.specs.Walking.{ArePostingsFrom, postings_told}
use Rattle.ix_run_text.specs.Reading.{HasRead, postings_ahead}
use Rattle.ix_run_text.proofs.Faulting.{going_begun, keeps_faults, well_begun}
use Rattle.ix_run_text.proofs.ListSteps.{if_granted}
use Rattle.ix_run_text.proofs.RaisedLists.{may_raise, raised_full}
use Rattle.ix_run_text.proofs.ReadFronts.{extended-nil}
use Rattle.ix_run_text.proofs.ReadSkips.{ends_postings}
use Rattle.ix_run_text.proofs.ReadSteps.{term_at_hand}
use Rattle.ix_run_text.proofs.SureReaders.{is_sure}
use Rattle.ix_run_text.proofs.TakenLists.{documents_ahead}
use Rattle.ix_run_text.proofs.WholeLists.{shift_after}
use Rattle.ix_run_text.proofs.run_reader.reading.RunReaderSource.take_list.Goals as goal

pub resume-left-requires : goal.resume-left-requires
resume-left-requires g c =
    let self = c.args.self.now in
    subst (λ (bytes : List ℕ). ArePostingsFrom self.next self.documents (take self.bytes bytes)) (sym c.held.ensures) self.left.are

pub push_shifted-requires : goal.push_shifted-requires
push_shifted-requires g c =
    let self = c.args.self.now in
    may_raise self c.requires.begun c.args.next c.requires.low _ (c.resume-left.ensures ∙ ap (λ (bytes : List ℕ). postings_told self.documents self.next (take self.bytes bytes)) c.held.ensures)

pub returns-then-documents-eq0-clause-given : goal.returns-then-documents-eq0-clause-given
returns-then-documents-eq0-clause-given g c =
    let self = c.args.self.now in
    let ends = ends_postings g.R.Read.remaining self c.if-documents-eq0.true in
    record {
      postings = [];
      yielded = λ rest entries may. ends.yielded rest entries may;
      given = λ finished entry has.
          let known = ends.given finished entry has in
          (subst (λ (e : DictionaryEntry). HasRead self finished (Some e)) (sym (extended-nil entry)) known.0, (let some = known.1 in omega (arith, some, length-append entry.postings [])));
      count = c.if-documents-eq0.true;
      last = refl;
      coded = sym (append-nil c.args.out.now.items);
    }

pub returns-then-is_err-clause-full : goal.returns-then-is_err-clause-full
returns-then-is_err-clause-full g c _ =
    let self = c.args.self.now in
    raised_full self c.requires.begun c.args.next c.requires.low c.push_shifted.result _ _ _
    (c.resume-left.ensures ∙ ap (λ (bytes : List ℕ). postings_told self.documents self.next (take self.bytes bytes)) c.held.ensures) (sym c.is_err.ensures.value ∙ c.if-is_err.true) c.push_shifted.ensures.full

pub returns-clause-given : goal.returns-clause-given
returns-clause-given g c =
    let self = c.args.self.now in
    let ahead : List Posting = postings_ahead self in
    let count = documents_ahead self in
    let some : 0 < length ahead = omega (arith, count, c.if-documents-eq0.false) in
    let first : ℕ = self.head.first in
    let is = c.resume-left.ensures ∙ ap (λ (bytes : List ℕ). postings_told self.documents self.next (take self.bytes bytes)) c.held.ensures in
    record {
      postings = ahead;
      yielded = λ rest entries may. c.skip.ensures.skipped.yielded rest entries may;
      given = λ finished entry has. (c.skip.ensures.skipped.given finished (Some entry) has, omega (arith, some, length-append entry.postings ahead));
      count = sym count;
      last = ap (λ (n : ℕ). first + n) (c.skip.ensures.after ∙ self.left.last) ∙ sym (shift_after first c.args.next self.next ahead some);
      coded = if_granted c.push_shifted.result (sym c.is_err.ensures.value ∙ c.if-is_err.false) c.push_shifted.ensures.ok
          ∙ ap (λ (ps : List Posting). c.args.out.now.items ++ list_bytes_from c.args.next (shifted first ps)) is;
    }

pub returns-clause-no_more_faults : goal.returns-clause-no_more_faults
returns-clause-no_more_faults g c =
    let self = c.args.self.now in
    let here = term_at_hand self.place self.documents self.drained (omega (arith, c.if-documents-eq0.false)) in
    keeps_faults g.R.Read.remaining self (going_begun g.R.Read.remaining self (inr here)) (well_begun g.R.Read.remaining self (inr here)) _
    (λ postings entries faces. ([], (entries, (c.skip.ensures.skipped.accepted postings entries faces).1)))

pub returns-clause-accepted : goal.returns-clause-accepted
returns-clause-accepted g c postings entries faces =
    let self = c.args.self.now in
    let found = c.skip.ensures.skipped.accepted postings entries faces in
    let is = c.resume-left.ensures ∙ ap (λ (bytes : List ℕ). postings_told self.documents self.next (take self.bytes bytes)) c.held.ensures in
    record {
      coded = if_granted c.push_shifted.result (sym c.is_err.ensures.value ∙ c.if-is_err.false) c.push_shifted.ensures.ok
          ∙ ap (λ (ps : List Posting). c.args.out.now.items ++ list_bytes_from c.args.next (shifted self.head.first ps)) (is ∙ sym found.0);
      ahead = found.1;
    }

pub returns-clause-sure : goal.returns-clause-sure
returns-clause-sure g c sure = is_sure g.R.Read.remaining _ [] sure.entries (c.skip.ensures.skipped.accepted sure.postings sure.entries sure.faces).1
