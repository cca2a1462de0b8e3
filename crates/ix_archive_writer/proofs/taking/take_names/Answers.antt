use Rattle.std.proofs.Common.{◌+◌, ◌∙◌, ◌++◌, ◌∷◌, [], List, ℕ, ap, arith, inl, inr, refl}
use Rattle.std.specs.Prelude.{map, string_bytes}
use Rattle.std.proofs.lemmas.List.{map_push}
use Rattle.ix_file.specs.Opened.{names_of}
use Rattle.ix_archive_writer.proofs.TakingLemmas.{taken_step}
use Rattle.ix_archive_writer.proofs.taking.take_names.Goals as goal
use Rattle.ix_archive_writer.proofs.taking.take_names.Goals.{then-is_removed+then-not-is_removed+in_ok-from_str+in_ok-push, else-is_removed, else-is_removed-via-then-is_removed+else-not-is_removed, else-is_removed-via-else-is_removed}

pub loop-document-preserved : goal.loop-document-preserved
loop-document-preserved c before counted are =
    let taken = c.loop-document.taken.items in
    taken_step c.args.asked.now c.args.removed.now before (names_of c.args.index.now.parts.rows) (map string_bytes taken) _ c.loop-document.document (c.args.first + c.from.result) c.name-name.result.now c.name-name.ensures
    (omega (arith, c.from.ensures, counted)) (c.loop-document.invariant before counted are)
    (elim c.if-is_removed.branch [
      | then-is_removed+then-not-is_removed+in_ok-from_str+in_ok-push w ↦ inl (
        c.is_removed.ensures.0 w.if-is_removed.true,
        λ gone. let yes = w.is_removed-then-is_removed.ensures.1 gone in let no = w.if-not-is_removed.true in absurd (cc),
        rw (w.taken-is, w.in_ok-push.ensures.items) (map_push string_bytes taken _ ∙ ap (λ (t : List ℕ). map string_bytes taken ++ t ∷ []) w.in_ok-from_str.ensures.ok),
      )
      | else-is_removed w ↦ inr (
        elim w.else-is_removed.branch [
          | else-is_removed-via-then-is_removed+else-not-is_removed v ↦ λ wanted. v.is_removed-then-is_removed.ensures.0 v.if-not-is_removed.false
          | else-is_removed-via-else-is_removed v ↦ λ wanted. let yes = c.is_removed.ensures.1 wanted in let no = v.if-is_removed.false in absurd (cc)
        ],
        rw w.taken-is refl,
      )
    ])
