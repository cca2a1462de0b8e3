use Rattle.ix_file.proofs.EntryBytes.{bytes_for_entries}
use Rattle.ix_file.proofs.laws.index_text_has_bytes_for_entries.Goals as goal

pub returns : goal.returns
returns c = record { entries = bytes_for_entries; places = λ texts tables are. are.few_places }
