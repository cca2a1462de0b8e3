-- Why a text is no collection text: its size, its encoding, or its first line that is no document's.
use Rattle.std.specs.Prelude.{◌≡◌, ℕ, ◌+◌, ◌^◌, ◌<◌, ◌≤◌, ◌⊎◌, List, ◌∷◌, ◌++◌, length, flat_map, All, Contains, IsUtf8}
use Rattle.std.specs.Str.{IsValidUpTo}
use Rattle.ix_text.specs.CollectionText.{line_of}
use Rattle.ix_text.specs.Collections.{NamedText, IsName}
use Rattle.ix_text.specs.declared.collection.CollectionError.{CollectionError}
use Rattle.ix_text.specs.declared.collection.CollectionError.TheVariants.{TooLarge, NotUtf8, NoTab, Name, NoLineEnd, Memory}

-- the text is cut at the first of its bytes that is this one
pub record IsCutAtFirst (text : List ℕ) (byte : ℕ) (front back : List ℕ) : Type 0 where
  pub joined : text ≡ front ++ byte ∷ back
  pub first : ¬ (Contains front byte)

-- the first line, without its LF, which it may lack
abbrev pub IsFirstLine : List ℕ → List ℕ → Type 0
IsFirstLine text line = ((next : List ℕ) × IsCutAtFirst text 10 line next) ⊎ ((text ≡ line) × ¬ (Contains text 10))

-- the size that a name may have
abbrev pub IsNameSize : List ℕ → Type 0
IsNameSize name = (0 < length name) × (length name ≤ 255)

-- the line of this number, with which the text begins, has this fault: no TAB, a name of no lawful size, or no LF
abbrev pub IsLineFault : List ℕ → ℕ → CollectionError → Type 0
IsLineFault text number TooLarge = ⊥
IsLineFault text number (NotUtf8 front) = ⊥
IsLineFault text number (NoTab line) = (line ≡ number) × ((bytes : List ℕ) × IsFirstLine text bytes × ¬ (Contains bytes 9))
IsLineFault text number (Name line) =
    (line ≡ number) × ((bytes name rest : List ℕ) × IsFirstLine text bytes × IsCutAtFirst bytes 9 name rest × ¬ (IsNameSize name))
IsLineFault text number (NoLineEnd line) =
    (line ≡ number) × ((name rest : List ℕ) × IsCutAtFirst text 9 name rest × IsNameSize name × ¬ (Contains text 10))
IsLineFault text number Memory = ⊥

-- the lines of these documents come first, and the line of this number begins what is left
pub record IsReadUpTo (text : List ℕ) (documents : List NamedText) (number : ℕ) (left : List ℕ) : Type 0 where
  pub lines : text ≡ flat_map line_of documents ++ left
  pub names : All (λ d. IsName d.name) documents
  pub texts : All (λ d. ¬ (Contains d.text 10)) documents
  pub numbered : number ≡ length documents + 1

-- the first line that is no document's has this fault
pub record HasLineFault (text : List ℕ) (fault : CollectionError) : Type 0 where
  pub size : length text ≤ 2 ^ 28
  pub characters : IsUtf8 text
  pub documents : List NamedText
  pub number : ℕ
  pub left : List ℕ
  pub earlier : IsReadUpTo text documents number left
  pub some_byte : 0 < length left
  pub fault_of_line : IsLineFault left number fault

-- the text has this fault
abbrev pub IsCollectionFault : List ℕ → CollectionError → Type 0
IsCollectionFault text TooLarge = 2 ^ 28 < length text
IsCollectionFault text (NotUtf8 front) = (length text ≤ 2 ^ 28) × IsValidUpTo text front
IsCollectionFault text (NoTab line) = HasLineFault text (NoTab line)
IsCollectionFault text (Name line) = HasLineFault text (Name line)
IsCollectionFault text (NoLineEnd line) = HasLineFault text (NoLineEnd line)
IsCollectionFault text Memory = ⊥
