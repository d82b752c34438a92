-- Texts written one after another.
use Rattle.std.proofs.Common.{◌≡◌, ℕ, List, ◌++◌, ◌∙◌, ap, append_assoc}

pub written_3 : (old x y new a b c : List ℕ) → x ≡ old ++ a → y ≡ x ++ b → new ≡ y ++ c → new ≡ old ++ (a ++ b ++ c)
written_3 old x y new a b c e f g = g ∙ ap (λ z. z ++ c) (f ∙ ap (λ z. z ++ b) e) ∙ rw (append_assoc old a b) (append_assoc old (a ++ b) c)

pub written_2 : (old x new a b : List ℕ) → x ≡ old ++ a → new ≡ x ++ b → new ≡ old ++ (a ++ b)
written_2 old x new a b e f = f ∙ ap (λ z. z ++ b) e ∙ append_assoc old a b
