-- How a dictionary grows by an entry.
use Rattle.std.specs.Prelude.{◌≡◌, ℕ, ◌+◌, List, ◌++◌}
use Rattle.ix_vbyte.specs.Code.{code_of}
use Rattle.ix_index_text.specs.Sections.{grouped}
use Rattle.ix_index_text.specs.declared.writer.dictionary.Dictionary.{Dictionary}

-- the dictionary gained an entry of this term, number of documents and number of the list's bytes
pub record GainsEntry (old new : Dictionary) (term : List ℕ) (documents list : ℕ) : Type 0 where
  pub bytes : new.bytes.items ≡ old.bytes.items ++ grouped old.count old.previous.items term ++ code_of documents ++ code_of list
  pub count : new.count ≡ old.count + 1
  pub previous : new.previous.items ≡ term
