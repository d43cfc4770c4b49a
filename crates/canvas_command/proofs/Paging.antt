-- Texts after each other.
use Rattle.std.proofs.Common.{◌≡◌, ◌∙◌, ◌++◌, append_assoc, ap}
use Rattle.canvas_task.specs.Text.{Text}

-- four texts after what was there
pub after_four : (o a b c d : Text) → o ++ a ++ b ++ c ++ d ≡ o ++ (a ++ b ++ c ++ d)
after_four o a b c d =
    ap (λ x. x ++ d) (ap (λ x. x ++ c) (append_assoc o a b) ∙ append_assoc o (a ++ b) c)
    ∙ append_assoc o (a ++ b ++ c) d
