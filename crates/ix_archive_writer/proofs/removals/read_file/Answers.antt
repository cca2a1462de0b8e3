use Rattle.std.proofs.Common.{◌≡◌, ◌∙◌, Option, ap, subst, sym}
use Rattle.std.specs.Prelude.{option_map}
use Rattle.ix_files.specs.Locations.{place_of}
use Rattle.ix_files.specs.Slots.{Kept, Place, bytes_of}
use Rattle.ix_archive_writer.specs.Readings.{IsWhole}
use Rattle.ix_archive_writer.proofs.removals.read_file.Goals as goal

pub returns-in-Ok : goal.returns-in-Ok
returns-in-Ok g c honest count removals text is kept =
    let slots = (g.F.Files.view c.args.files.now).slots in
    let there = subst (λ (place : Place). (slots place).now ≡ Kept text) (sym c.in_ok-at.ensures) kept in
    let whole = subst (λ (found : Option _). IsWhole (slots (place_of c.in_ok-at.at)).now (option_map (λ bytes. bytes.items) found)) c.in-Ok-Some.field-0-is (c.in-Ok-Some.ensures.whole honest) in
    c.in-Ok.ensures.exact removals is.listed (c.as_slice-2.ensures.value ∙ whole.1 text (ap bytes_of there) ∙ is.written)
