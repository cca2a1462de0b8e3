use Rattle.std.proofs.Common.{refl}
use Rattle.ix_output.proofs.SinkLemmas.{on_err_always}
use Rattle.ix_index_text.proofs.TellingLemmas.{refusal_set}
use Rattle.ix_index_text.proofs.ListTold.{front_of_list, one_posting, posting_kept, posting_may, spelled_listed}
use Rattle.ix_index_text.proofs.writer.IndexWriter+W.posting.Goals as goal

pub returns-in_err-stage-clause-front : goal.returns-in_err-stage-clause-front
returns-in_err-stage-clause-front g c before told is may =
    let one = one_posting _ told c.args.document c.args.positions.now is.kept may c.requires.document c.requires.some c.requires.ascending in
    on_err_always _ (front_of_list before _ _ told _ _ _ _ one is.written)

pub returns-in_err-send_if_full-clause-front : goal.returns-in_err-send_if_full-clause-front
returns-in_err-send_if_full-clause-front g c before told is may =
    let one = posting_may _ _ _ told c.args.document c.args.positions.now is.kept may c.requires.document c.requires.some c.requires.ascending c.take_up.ensures.set in
    on_err_always _ (c.in_err-send_if_full.ensures.front before _ (spelled_listed before _ c.args.self.now.sections _ _ _ told _ _ _ _ is.written c.take_up.ensures.set c.in_ok-stage.ensures.pending one))

pub returns-clause-told : goal.returns-clause-told
returns-clause-told g c before told is may =
    let one = posting_may _ _ _ told c.args.document c.args.positions.now is.kept may c.requires.document c.requires.some c.requires.ascending c.take_up.ensures.set in
    record {
      ready = refl;
      kept = posting_kept _ _ _ _ _ _ told _ _ _ _ is.kept one c.take_up.ensures.set c.in_ok-stage.ensures.counted c.send_if_full.ensures.kept (refusal_set c.send_if_full.new.sections _ _ refl);
      written = c.in_ok-send_if_full.ensures.sent before _ (spelled_listed before _ c.args.self.now.sections _ _ _ told _ _ _ _ is.written c.take_up.ensures.set c.in_ok-stage.ensures.pending one);
    }
