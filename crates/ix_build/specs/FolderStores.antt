-- Stores of runs in files that they share.
use Rattle.std.specs.Prelude.{ℕ, List}
use Rattle.ix_build.specs.declared.folder_store.FolderStore.{FolderStore}

-- the files in which a store keeps its runs
abbrev pub files_of : {F : Type 0} → FolderStore F → F
files_of store = store.files.now

-- the places that it saved, in this order
abbrev pub saved_of : {F : Type 0} → FolderStore F → List ℕ
saved_of store = store.saved.items

-- how many of its calls failed
abbrev pub faults_of : {F : Type 0} → FolderStore F → ℕ
faults_of store = store.faults

-- what may come back for a place is what may come back of its file
abbrev pub GivesBack : {F : Type 0} → (F → ℕ → List ℕ → Type 0) → FolderStore F → ℕ → List ℕ → Type 0
GivesBack back store place bytes = back (files_of store) place bytes
