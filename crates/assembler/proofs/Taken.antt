-- One word that is taken, by what it means. Assumes nothing.
use Rattle.std.proofs.Common.{◌≡◌, ℕ, List, Ok, Err, Result, Option, Some, None, sym, ap, ◌∙◌}
use Rattle.std.specs.Option.{ok_or, option_map}
use Rattle.assembler.specs.declared.mistakes.Expected.{Expected}
use Rattle.assembler.specs.Reading.{Got, got, wrong, Took, itself, meant}

-- what is read, by what it means
abbrev pub Reads : {A B : Type 0} → (B → A) → Result B Expected → Result A Expected → Type 0
Reads f (Ok b) s = s ≡ Ok (f b)
Reads f (Err e) s = s ≡ Err e

abbrev again : {A B : Type 0} → (B → A) → Got B → Got A
again f (got b w) = got (f b) w
again f (wrong x w) = wrong x w

module _ {A B : Type 0} (f : B → A) (s : Result A Expected) (t u v : List ℕ) where
  pub reads_took : (r q : Result B Expected) → Reads f r s → Took itself (meant r t u) q v → Took f (meant s t u) q v
  reads_took (Ok b) (Ok c) e k = ap (λ x. meant x t u) e ∙ ap (again f) k
  reads_took (Ok b) (Err y) e k = ap (λ x. meant x t u) e ∙ ap (again f) k
  reads_took (Err x) (Ok c) e k = ap (λ x. meant x t u) e ∙ ap (again f) k
  reads_took (Err x) (Err y) e k = ap (λ x. meant x t u) e ∙ ap (again f) k

pub ok_or_reads : {A B : Type 0} (f : B → A) (x : Expected) (o : Option B) (p : Option A) → option_map f o ≡ p → Reads f (ok_or o x) (ok_or p x)
ok_or_reads f x None p e = ap (λ q. ok_or q x) (sym e)
ok_or_reads f x (Some b) p e = ap (λ q. ok_or q x) (sym e)
