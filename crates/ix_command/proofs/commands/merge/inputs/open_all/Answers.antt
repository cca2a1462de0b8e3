-- One more file was opened, or was not.
use Rattle.std.proofs.Common.{inl, refl}
use Rattle.ix_line.specs.Lines.{texts_of}
use Rattle.ix_command.proofs.FileLemmas.{handed_up}
use Rattle.ix_command.proofs.MergedFileLemmas.{input_near, opened_more, opened_none, path_at, refused_more}
use Rattle.ix_files.specs.Reading.{held_in}
use Rattle.ix_command.proofs.commands.merge.inputs.open_all.Goals as goal

pub loop-place-init : goal.loop-place-init
loop-place-init g c = opened_none _ _ _ _ c.new.ensures.items refl

pub returns-in_err-input-clause-refused : goal.returns-in_err-input-clause-refused
returns-in_err-input-clause-refused g c =
    handed_up _ c.from_residual.result c.in_err-input.field-0.0 c.from_residual.ensures.1 (record {
      place = c.loop-place.place;
      path = _;
      at_place = path_at c.args.paths.now c.loop-place.place _ c.loop-place-test.true;
      refuses = inl c.in_err-input.ensures.refused;
    })

pub add-requires-clause-near : goal.add-requires-clause-near
add-requires-clause-near g c =
    input_near (held_in (g.F.Files.view c.args.files.now)) g.F.Reader.Read.remaining (texts_of c.args.paths.now) c.loop-place.place c.in_ok-input.input _
    (path_at c.args.paths.now c.loop-place.place _ c.loop-place-test.true) c.in_ok-input.ensures.opened

pub returns-in_err-add-clause-refused : goal.returns-in_err-add-clause-refused
returns-in_err-add-clause-refused g c =
    handed_up _ c.from_residual-in_err-add.result c.in_err-add.field-0.0 c.from_residual-in_err-add.ensures.1
    (refused_more _ _ (texts_of c.args.paths.now) c.loop-place.inputs c.loop-place.place c.loop-place.invariant c.in_ok-input.input _ c.in_err-add.field-0.0
    (path_at c.args.paths.now c.loop-place.place _ c.loop-place-test.true) c.in_ok-input.ensures.opened c.in_err-add.ensures.refused)

pub loop-place-preserved : goal.loop-place-preserved
loop-place-preserved g c =
    opened_more _ _ (texts_of c.args.paths.now) c.loop-place.inputs c.add.new.self c.loop-place.place c.in_ok-input.input _
    (path_at c.args.paths.now c.loop-place.place _ c.loop-place-test.true) c.in_ok-input.ensures.opened c.in_ok-add.ensures.added c.loop-place.invariant
