-- The numbers of the errors that a collection text meets, and their names, as they are printed.
use Rattle.std.specs.Prelude.{ℕ, List, ◌++◌, codes, decimal}
use Rattle.ix_text.specs.declared.collection.CollectionError.{CollectionError}
use Rattle.ix_text.specs.declared.collection.CollectionError.TheVariants.{TooLarge, NotUtf8, NoTab, Name, NoLineEnd, Memory}

-- the number of an error, from 1
abbrev pub collection_error_number : CollectionError → ℕ
collection_error_number TooLarge = 1
collection_error_number (NotUtf8 length) = 2
collection_error_number (NoTab line) = 3
collection_error_number (Name line) = 4
collection_error_number (NoLineEnd line) = 5
collection_error_number Memory = 6

-- the name of an error, with its length or its line in brackets
abbrev pub collection_error_name : CollectionError → List ℕ
collection_error_name TooLarge = codes "TooLarge"
collection_error_name (NotUtf8 length) = codes "NotUtf8(" ++ (decimal length ++ codes ")")
collection_error_name (NoTab line) = codes "NoTab(" ++ (decimal line ++ codes ")")
collection_error_name (Name line) = codes "Name(" ++ (decimal line ++ codes ")")
collection_error_name (NoLineEnd line) = codes "NoLineEnd(" ++ (decimal line ++ codes ")")
collection_error_name Memory = codes "Memory"
