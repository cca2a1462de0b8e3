use Rattle.std.proofs.Common.{◌≡◌, ◌≤◌, All, vec_len}
use Rattle.std.specs.Vec.{vec_capacity}
use Rattle.ix_build.specs.FolderStores.{files_of}
use Rattle.ix_build.proofs.in_folder.stores_over.Given as goal

abbrev pub invariant-loop : goal.invariant-loop
invariant-loop g l = (vec_len l.stores ≡ l.counter) × (l.fn.workers ≤ vec_capacity l.stores) × All (λ store. files_of store ≡ l.files) l.stores.items
