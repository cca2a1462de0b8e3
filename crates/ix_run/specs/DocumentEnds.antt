-- Where the documents of a block end among its tokens, and so which document has a token, and at which position.
use Rattle.std.specs.Prelude.{◌≡◌, ℕ, ◌+◌, ◌-◌, ◌*◌, ◌^◌, ◌<◌, ◌≤◌, nat_lt, List, [], ◌∷◌, length, get_or, fold, ⊤, if◌then◌else◌}
use Rattle.ix_text.specs.Collections.{Document}
use Rattle.ix_text.specs.Parts.{Posting}
use Rattle.ix_run.specs.Inverted.{grown}

-- the ends of documents whose first token stands at that place
abbrev pub ends_of : ℕ → List Document → List ℕ
ends_of start [] = []
ends_of start (document ∷ documents) = (start + length document.tokens) ∷ ends_of (start + length document.tokens) documents

-- the document, from 0, in which a place is, and how far it is from that one's start, where the first begins there
abbrev pub token_at : ℕ → List ℕ → ℕ → ℕ × ℕ
token_at start [] place = (0, place - start)
token_at start (end ∷ ends) place = if nat_lt place end then (0, place - start) else (1 + (token_at end ends place).0, (token_at end ends place).1)

-- the end of the last document
abbrev pub last_end : ℕ → List ℕ → ℕ
last_end start [] = start
last_end start (end ∷ ends) = last_end end ends

-- no document ends before it begins
abbrev pub AreEnds : ℕ → List ℕ → Type 0
AreEnds start [] = ⊤
AreEnds start (end ∷ ends) = (start ≤ end) × AreEnds end ends

-- Each place between the two is of that document, whose first token stands at `start`, and each from `end` on is of a later one.
pub record IsSpan (ends : List ℕ) (document start end : ℕ) : Type 0 where
  pub each : (place : ℕ) → start ≤ place → place < end → token_at 0 ends place ≡ (document, place - start)
  pub later : (place : ℕ) → end ≤ place → document < (token_at 0 ends place).0

-- the postings of a term that stands at these places
abbrev pub postings_at : List ℕ → List ℕ → List Posting
postings_at ends places = fold (λ postings place. grown postings (token_at 0 ends place).0 (token_at 0 ends place).1) [] places

-- the ends of documents, within the limits
pub record AreSpans (ends : List ℕ) : Type 0 where
  pub ascending : AreEnds 0 ends
  pub few_tokens : last_end 0 ends ≤ 2 ^ 28
  pub few_documents : length ends ≤ 2 ^ 28

-- Of each stretch of so many places a document before which each ends where the stretch begins, or earlier.
pub record AreMarks (size : ℕ) (ends marks : List ℕ) : Type 0 where
  pub within : (stretch : ℕ) → get_or marks stretch 0 ≤ length ends
  pub before : (stretch document : ℕ) → document < get_or marks stretch 0 → get_or ends document 0 ≤ size * stretch
