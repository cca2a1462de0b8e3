-- The numbers of the errors of a store.
use Rattle.std.specs.Prelude.{ℕ}
use Rattle.ix_build.specs.declared.store.StoreError.{StoreError}
use Rattle.ix_build.specs.declared.store.StoreError.TheVariants.{Store, Memory}

-- an error's place in the list of these errors, from 1
abbrev pub store_error_number : StoreError → ℕ
store_error_number Store = 1
store_error_number Memory = 2
