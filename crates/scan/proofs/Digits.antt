-- A loop over digits: a byte that ends it, a byte more, the end.
use Rattle.std.proofs.Common.{◌≡◌, ℕ, ◌+◌, ◌<◌, ◌≤◌, List, length, get_or, drop, Some, None, ap, ◌∙◌}
use Rattle.std.proofs.lemmas.List.{at_drop_more, at_drop_all}
use Rattle.scan.specs.Numbers.{onward, longer, digits}

module _ (base most n : ℕ) (xs : List ℕ) (i : ℕ) where
  pub digits_stop : i < length xs → longer base most n (get_or xs i 0) ≡ None → digits base most n (drop i xs) ≡ None
  digits_stop l e = at_drop_more (digits base most n) xs i 0 l ∙ ap (λ o. onward o (λ m. digits base most m (drop (i + 1) xs))) e

  pub digits_more : {m : ℕ} → i < length xs → longer base most n (get_or xs i 0) ≡ Some m → digits base most n (drop i xs) ≡ digits base most m (drop (i + 1) xs)
  digits_more l e = at_drop_more (digits base most n) xs i 0 l ∙ ap (λ o. onward o (λ k. digits base most k (drop (i + 1) xs))) e

  pub digits_all : length xs ≤ i → digits base most n (drop i xs) ≡ Some n
  digits_all l = at_drop_all (digits base most n) xs i l
