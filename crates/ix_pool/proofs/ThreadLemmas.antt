-- Threads that are started from the back of a list and joined from its front.
use Rattle.std.proofs.Common.{◌≡◌, List, [], ◌∷◌, ◌++◌, map, reverse, sym, ap, ◌∙◌, append_assoc}
use Rattle.std.proofs.lemmas.List.{map_push, reverse-append}

module _ {A H : Type 0} (f : H → A) where
  reverse_push : (hs : List H) (h : H) → reverse (map f (hs ++ h ∷ [])) ≡ f h ∷ reverse (map f hs)
  reverse_push hs h = ap reverse (map_push f hs h) ∙ reverse-append (map f hs) (f h ∷ [])

  -- the last one of those that are left is started
  pub one_started : (all left rest : List A) (x : A) (hs more : List H) (h : H) → all ≡ left ++ reverse (map f hs) → left ≡ rest ++ x ∷ [] → more ≡ hs ++ h ∷ [] → f h ≡ x
      → all ≡ rest ++ reverse (map f more)
  one_started all left rest x hs more h was popped pushed is =
      was ∙ (ap (λ (l : List A). l ++ reverse (map f hs)) popped ∙ (append_assoc rest (x ∷ []) (reverse (map f hs))
      ∙ ap (λ (l : List A). rest ++ l) (ap (λ (y : A). y ∷ reverse (map f hs)) (sym is) ∙ (sym (reverse_push hs h) ∙ ap (λ (l : List H). reverse (map f l)) (sym pushed)))))

  -- the first one of those that are left is joined
  pub one_joined : (all done : List A) (hs rest : List H) (h : H) → all ≡ done ++ reverse (map f hs) → hs ≡ rest ++ h ∷ [] → all ≡ (done ++ f h ∷ []) ++ reverse (map f rest)
  one_joined all done hs rest h was popped =
      was ∙ (ap (λ (l : List H). done ++ reverse (map f l)) popped ∙ (ap (λ (l : List A). done ++ l) (reverse_push rest h) ∙ sym (append_assoc done (f h ∷ []) (reverse (map f rest)))))
