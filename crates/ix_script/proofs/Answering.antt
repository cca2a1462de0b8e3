-- Answers to queries, one after another.
use Rattle.std.proofs.Common.{◌≡◌, ℕ, ◌<◌, List, [], ◌∷◌, ◌++◌, length, map, take, suc, slice_index_or, subst, sym, ap, ◌∙◌, arith, Result, Ok, IfOk}
use Rattle.std.proofs.Math.Seq.{take-append_seam}
use Rattle.std.proofs.lemmas.List.{length-map}
use Rattle.ix_query.specs.Tree.{Tree}
use Rattle.ix_live.specs.Operations.{Operation}
use Rattle.ix_script.specs.Answers.{AreAnswers, IsAnswer}

module _ {Q X E : Type 0} (stop : List (List ℕ)) (operations : List Operation) (tree : Q → Tree) (names : X → List (List ℕ)) where
  -- what was found for each query, if anything was, answers it
  abbrev pub AnswerEach : List Q → List (Result X E) → Type 0
  AnswerEach queries found =
      (place : ℕ) (one : Result X E) (query : Q) → place < length queries → IfOk (slice_index_or found place one) (λ x. IsAnswer stop operations (tree (slice_index_or queries place query)) (names x))

  all_of_each : (queries : List Q) (answers : List X) → length answers ≡ length queries → AnswerEach queries (map (λ x. Ok x) answers) → AreAnswers stop operations (map tree queries) (map names answers)
  all_of_each [] [] counted each = tt
  all_of_each [] (one ∷ answers) counted each = absurd (omega (arith, counted))
  all_of_each (query ∷ queries) [] counted each = absurd (omega (arith, counted))
  all_of_each (query ∷ queries) (one ∷ answers) counted each =
      (each 0 (Ok one) query (omega arith), all_of_each queries answers (omega (arith, counted)) (λ place other q low. each (suc place) other q (omega (arith, low))))

  -- if something was found for each query, that answers all
  pub all_answers : (queries : List Q) (found rest : List (Result X E)) (n : ℕ) (answers : List X) → length found ≡ length queries → n ≡ length found → AnswerEach queries found
      → map (λ x. Ok x) answers ≡ take n (found ++ rest) → AreAnswers stop operations (map tree queries) (map names answers)
  all_answers queries found rest n answers counted whole each same =
      let ok : X → Result X E = λ x. Ok x in
      let all : map ok answers ≡ found = same ∙ ap (λ k. take k (found ++ rest)) whole ∙ take-append_seam found rest in
      all_of_each queries answers (omega (arith, counted, ap length all, length-map answers ok)) (subst (AnswerEach queries) (sym all) each)
