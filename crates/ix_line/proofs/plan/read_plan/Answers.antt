-- The numbers of the options are in their ranges, so they make a plan, unless there are two cuts.
use Rattle.std.proofs.Common.{◌≡◌, ◌≤◌, ◌∙◌, ap, ap₂, arith, codes, option_map, subst, sym, Some}
use Rattle.clap.specs.Words.{found_of, one_of, rows_of}
use Rattle.ix_build.specs.Blocks.{cut_number}
use Rattle.ix_build.specs.declared.plan.Cut.{Cut}
use Rattle.ix_line.specs.Lines.{cut_of, number_of}
use Rattle.ix_line.proofs.Plans.{cut_few, is_number}
use Rattle.ix_line.proofs.plan.read_plan.Goals as goal

pub number_option-block-requires : goal.number_option-block-requires
number_option-block-requires c = is_number 1 268435456 _ c.requires.block

pub number_option-bytes-requires : goal.number_option-bytes-requires
number_option-bytes-requires c = is_number 1 268435456 _ c.requires.bytes

pub number_or-workers-requires : goal.number_or-workers-requires
number_or-workers-requires c = is_number 1 64 _ c.requires.workers

pub returns-clause-plan : goal.returns-clause-plan
returns-clause-plan c =
    let rows = rows_of (found_of c.args.matches.now) in
    let block = one_of (codes "block") rows in
    let bytes = one_of (codes "bytes") rows in
    let made : cut_of (option_map number_of block) (option_map number_of bytes) ≡ Some c.in_ok-cut.cut =
    ap₂ cut_of (sym c.number_option-block.ensures) (sym c.number_option-bytes.ensures) ∙ sym c.cut_of.ensures ∙ c.in_ok-cut.was in
    record {
      cut = made ∙ ap Some (sym c.plan_of.ensures.cut);
      few = subst (λ (cut : Cut). cut_number cut ≤ 268435456) (sym c.plan_of.ensures.cut)
          (cut_few 268435456 block bytes c.in_ok-cut.cut (omega arith) c.requires.block c.requires.bytes made);
      workers = c.plan_of.ensures.workers ∙ c.number_or-workers.ensures;
      folder_is = c.plan_of.ensures.folder;
    }
