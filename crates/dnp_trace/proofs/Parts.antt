-- Five parts that are written one after the other.
use Rattle.std.proofs.Common.{◌≡◌, ℕ, List, ◌++◌, ◌∙◌, ap, append_assoc}

pub five_parts : (s s1 s2 s3 s4 s5 a b c d e : List ℕ) → s1 ≡ s ++ a → s2 ≡ s1 ++ b → s3 ≡ s2 ++ c → s4 ≡ s3 ++ d → s5 ≡ s4 ++ e
    → s5 ≡ s ++ (a ++ (b ++ (c ++ (d ++ e))))
five_parts s s1 s2 s3 s4 s5 a b c d e p q r t u =
    u ∙ ap (λ (x : List ℕ). x ++ e) t ∙ append_assoc s3 d e
    ∙ ap (λ (x : List ℕ). x ++ (d ++ e)) r ∙ append_assoc s2 c (d ++ e)
    ∙ ap (λ (x : List ℕ). x ++ (c ++ (d ++ e))) q ∙ append_assoc s1 b (c ++ (d ++ e))
    ∙ ap (λ (x : List ℕ). x ++ (b ++ (c ++ (d ++ e)))) p ∙ append_assoc s a (b ++ (c ++ (d ++ e)))
