use Rattle.std.proofs.Common.{◌≡◌, ◌+◌, ◌-◌, ◌<◌, ℕ, List, [], refl, length, take, drop, append-nil, sym, ◌∙◌, inl, inr, ⊎_elim, subst, arith}
use Rattle.std.proofs.lemmas.Bool.Decides.{nat_tests}
use Rattle.std.proofs.lemmas.List.{take_all, take_rest}
use Rattle.std.proofs.lemmas.Result.{err_from_is_err_and}
use Rattle.ix_text.specs.Parts.{DocumentRow, Posting}
use Rattle.ix_postings.specs.TokenTables.{HasTokens}
use Rattle.ix_postings.specs.CheckedLists.{MayFail}
use Rattle.ix_postings.proofs.NextPostings.{near_next}
use Rattle.ix_vbyte.proofs.Places.{no_skips}
use Rattle.ix_vbyte.specs.Postings.{posting_bytes}
use Rattle.ix_file.specs.ReadLists.{AreListedIn, IsNextPosting}
use Rattle.ix_file.proofs.ListEntering.{place_kept, place_stands}
use Rattle.ix_file.proofs.ListReading.{HasReadList, ListGoesOn, list_goes_on, list_goes_on_behind, no_next, nothing_left, postings_all, read_no_posting, read_one_posting}
use Rattle.ix_file.proofs.ListsFound.{AreFew}
use Rattle.ix_file.proofs.PostingReading.{is_memory, not_failed}
use Rattle.ix_file.proofs.open.list.check_list.Goals as goal

pub loop-document-init : goal.loop-document-init
loop-document-init c = record {
  read = λ rows has. read_no_posting rows c.args.bytes.now c.args.claims.now;
  goes_on = λ rows postings has listed. list_goes_on rows c.args.documents c.args.bytes.now postings listed;
  entered = λ postings are counted coded. rw c.new-skips.ensures.items (no_skips postings);
  few = rw c.new-skips.ensures.items c.first_end-end.ensures;
  near = omega arith;
  claimed = c.requires.claimed;
  room = λ top has. has;
}

pub check_posting-requires-clause-ready : goal.check_posting-requires-clause-ready
check_posting-requires-clause-ready c =
    let ready = c.requires.ready in
    record { rows = ready.rows; has = ready.has; few_documents = ready.few_documents; few_tokens = ready.few_tokens; room = c.loop-document.invariant.room _ ready.room }

pub returns-in_err-number-clause-refused : goal.returns-in_err-number-clause-refused
returns-in_err-number-clause-refused c =
    let loop = c.loop-document in
    let fault = c.in_err-number.field-0.0 in
    let left = loop.left.now in
    let whole : take (length left) left ≡ left = take_all (length left) left (omega arith) in
    let p = err_from_is_err_and c.from_residual-in_err-number.result c.from_residual-in_err-number.ensures.1 in
    rw p.1
    (⊎_elim (λ is. inl (p.2 is))
    (λ other.
    inr
    (λ rows postings has listed.
    no_next rows loop.next loop.document c.args.documents left c.loop-document-test.true
    (λ posting rest stands.
    not_failed loop.next left rest fault posting other stands.coded
    (subst (λ (bytes : List ℕ). MayFail bytes (posting_bytes (posting.0 + 1 - loop.next) posting) fault) whole
    (c.in_err-number.ensures.accepted rows loop.invariant.claimed.0 posting [] rest has loop.invariant.claimed.1 (record { above = stands.above; is = stands.is }) tt
    (append-nil (take (length left) left) ∙ whole ∙ stands.coded))))
    (loop.invariant.goes_on rows postings has listed)))
    (is_memory fault))

pub overflow_add-next : goal.overflow_add-next
overflow_add-next c =
    let ready = c.requires.ready in
    let read = c.in_ok-number.ensures.read in
    omega (arith, near_next ready.rows c.loop-document.next (c.in_ok-number.number, read.positions) (read.fits ready.rows ready.has) ready.few_documents)

pub loop-document-preserved : goal.loop-document-preserved
loop-document-preserved c =
    let loop = c.loop-document in
    let ready = c.requires.ready in
    let read = c.in_ok-number.ensures.read in
    let posting : Posting = (c.in_ok-number.number, read.positions) in
    let size = c.in_ok-number.size in
    let left = loop.left.now in
    let old = c.args.claims.now in
    let new = c.check_posting.new.seen in
    let same = sym (take_rest left size) in
    let stands : (rows : List DocumentRow) → HasTokens c.args.tokens.now rows → IsNextPosting rows loop.next left posting (drop size left) =
    λ rows has. record { above = (read.fits rows has).above; is = (read.fits rows has).is; coded = read.spelled } in
    let all : (rows : List DocumentRow) → HasTokens c.args.tokens.now rows → HasReadList rows (posting.0 + 1) (loop.document + 1) c.args.bytes.now (drop size left) old new =
    λ rows has. read_one_posting rows loop.next (posting.0 + 1) loop.document c.args.bytes.now left (drop size left) old loop.claims new posting
    (loop.invariant.read rows has) (stands rows has) refl (λ numbers claimed. (read.seen rows has numbers claimed tt).1) in
    record {
      read = λ rows has. subst (λ (rest : List ℕ). HasReadList rows (posting.0 + 1) (loop.document + 1) c.args.bytes.now rest old new) same (all rows has);
      goes_on = λ rows postings has listed.
          subst (λ (rest : List ℕ). ListGoesOn rows (posting.0 + 1) (loop.document + 1) c.args.documents rest) same
          (list_goes_on_behind rows loop.next loop.document c.args.documents left (drop size left) posting c.loop-document-test.true (stands rows has) (loop.invariant.goes_on rows postings has listed));
      entered = λ postings are counted coded.
          let few : AreFew ready.rows = record { documents = ready.few_documents; tokens = ready.few_tokens } in
          let before = loop.invariant.read ready.rows ready.has in
          place_kept postings loop.skips.items c.keep_place.new.skips.items _ (loop.invariant.entered postings are counted coded) c.in_ok-end.ensures.kept
          (place_stands ready.rows loop.next loop.document c.args.documents c.args.bytes.now left before.postings postings few before.have c.loop-document-test.true are counted coded);
      few = c.in_ok-end.ensures.few (length c.args.bytes.now) loop.invariant.few;
      near = near_next ready.rows loop.next posting (read.fits ready.rows ready.has) ready.few_documents;
      claimed = (_, (read.seen ready.rows ready.has loop.invariant.claimed.0 loop.invariant.claimed.1 tt).1);
      room = λ top has. (c.check_posting.ensures.room top).0 (loop.invariant.room top has);
    }

pub returns-in_err-number-clause-room : goal.returns-in_err-number-clause-room
returns-in_err-number-clause-room c = λ top has. (c.check_posting.ensures.room top).0 (c.loop-document.invariant.room top has)

pub returns-then-not-is_empty-clause-refused : goal.returns-then-not-is_empty-clause-refused
returns-then-not-is_empty-clause-refused c =
    inr
    (λ rows postings has listed.
    let none = nothing_left rows c.loop-document.next c.loop-document.document c.args.documents c.loop-document.left.now c.loop-document-test.false (c.loop-document.invariant.goes_on rows postings has listed) in
    let some : 0 < length c.loop-document.left.now = grind (arith, nat_tests, c.is_empty.ensures, c.if-not-is_empty.true) in
    omega arith)

pub returns-clause-found : goal.returns-clause-found
returns-clause-found c rows has =
    let read = c.loop-document.invariant.read rows has in
    let all : c.loop-document.document ≡ c.args.documents = omega arith in
    let none : length c.loop-document.left.now ≡ 0 = grind (arith, nat_tests, c.is_empty.ensures, c.if-not-is_empty.false) in
    let some = c.requires.some in (
      read.postings,
      subst (λ n. AreListedIn rows n c.args.bytes.now read.postings) all (postings_all rows c.loop-document.next c.loop-document.document c.args.bytes.now c.loop-document.left.now read.postings read.have (omega arith) none),
      read.claimed,
    )

pub returns-clause-room : goal.returns-clause-room
returns-clause-room c = c.loop-document.invariant.room

pub returns-clause-entered : goal.returns-clause-entered
returns-clause-entered c = c.loop-document.invariant.entered

pub returns-clause-few : goal.returns-clause-few
returns-clause-few c = c.loop-document.invariant.few.few
