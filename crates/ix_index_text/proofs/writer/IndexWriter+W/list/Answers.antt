use Rattle.std.proofs.Common.{refl, ap, arith}
use Rattle.ix_output.proofs.SinkLemmas.{on_err_always}
use Rattle.ix_index_text.proofs.TellingLemmas.{refusal_set}
use Rattle.ix_index_text.proofs.ListTold.{fits_list, list_kept, front_told, spelled_told, taken_spells, keeps_then}
use Rattle.ix_index_text.proofs.writer.IndexWriter+W.list.Goals as goal

pub overflow_cast-bytes : goal.overflow_cast-bytes
overflow_cast-bytes g c =
    let fits = fits_list _ _ c.args.documents c.args.next c.args.bytes.now (c.requires.may c.in_ok-take_up.ensures.ready) (keeps_then _ _ _ (refusal_set c.args.self.now.sections _ _ c.take_up.ensures.set) c.put_coded.ensures.kept) in
    omega arith

pub count-requires-clause-documents : goal.count-requires-clause-documents
count-requires-clause-documents g c =
    (fits_list _ _ c.args.documents c.args.next c.args.bytes.now (c.requires.may c.in_ok-take_up.ensures.ready) (keeps_then _ _ _ (refusal_set c.args.self.now.sections _ _ c.take_up.ensures.set) c.put_coded.ensures.kept)).documents_fit

pub count-requires-clause-list : goal.count-requires-clause-list
count-requires-clause-list g c =
    (fits_list _ _ c.args.documents c.args.next c.args.bytes.now (c.requires.may c.in_ok-take_up.ensures.ready) (keeps_then _ _ _ (refusal_set c.args.self.now.sections _ _ c.take_up.ensures.set) c.put_coded.ensures.kept)).list_fits

pub count-requires-clause-postings : goal.count-requires-clause-postings
count-requires-clause-postings g c =
    (fits_list _ _ c.args.documents c.args.next c.args.bytes.now (c.requires.may c.in_ok-take_up.ensures.ready) (keeps_then _ _ _ (refusal_set c.args.self.now.sections _ _ c.take_up.ensures.set) c.put_coded.ensures.kept)).postings_fit

pub returns-in_err-put_coded-clause-front : goal.returns-in_err-put_coded-clause-front
returns-in_err-put_coded-clause-front g c before told postings is may =
    on_err_always _ (front_told before _ told postings _ _ _ may (c.in_err-put_coded.ensures.front before _ (taken_spells before _ c.args.self.now.sections _ _ _ is.written c.take_up.ensures.set)))

pub returns-clause-told : goal.returns-clause-told
returns-clause-told g c before told postings is may = record {
  ready = refl;
  kept = list_kept _ _ _ _ _ _ told postings _ _ _ is.kept may c.take_up.ensures.set c.put_coded.ensures.kept c.count.ensures.counted (refusal_set c.count.new.self _ _ refl);
  written = spelled_told before _ _ _ told postings _ _ _ may (c.in_ok-put_coded.ensures.sent before _ (taken_spells before _ c.args.self.now.sections _ _ _ is.written c.take_up.ensures.set)) (ap (λ v. v.items) c.count.ensures.pending);
}
