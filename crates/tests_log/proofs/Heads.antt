-- The heads with which a log begins, one after the other.
use Rattle.std.proofs.Common.{ℕ, zero, suc, ◌+◌, List, [], ◌∷◌, ◌++◌, slice_index, arith}
use Rattle.std.proofs.lemmas.List.{length-append}
use Rattle.fish_rule.specs.Parts.{IsOlderPlace}
use Rattle.tests_log.specs.Heads.{AreOlder}

-- after the last head stands 0
older_behind : (line x : ℕ) (heads : List ℕ) → IsOlderPlace line x → ((b : ℕ) → IsOlderPlace line (slice_index heads b))
    → (b : ℕ) → IsOlderPlace line (slice_index (heads ++ x ∷ []) b)
older_behind line x [] is all zero = is
older_behind line x [] is all (suc b) = all b
older_behind line x (y ∷ ys) is all zero = all zero
older_behind line x (y ∷ ys) is all (suc b) = older_behind line x ys is (λ k. all (suc k)) b

-- one head more
pub older_push : (line n x : ℕ) (heads : List ℕ) → IsOlderPlace line x → AreOlder line n heads
    → AreOlder line (n + 1) (heads ++ x ∷ [])
older_push line n x heads is h = record {
  many = (let long = length-append heads (x ∷ []) in let many = h.many in omega arith);
  older = older_behind line x heads is h.older;
}
