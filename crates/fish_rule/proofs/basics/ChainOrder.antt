-- Chains by order: what one more linked place makes of them.
use Rattle.std.proofs.Common.{◌≡◌, ◌≢◌, ℕ, ◌<◌, ◌≤◌, sym, ◌∙◌, subst, inl, inr, ◌⊎◌, ⊎_elim, arith}
use Rattle.std.proofs.Math.Decide.{ℕ_discrete, dec_lt}
use Rattle.fish_rule.specs.Chains.{Chain, IsNext}

module _ (old new : ℕ → Type 0) (first : ℕ) where
  -- the same places with the same first words are the same chain
  pub chain_same : (head : ℕ) (log log' : ℕ → ℕ) → ((p : ℕ) → old p → new p) → ((p : ℕ) → new p → old p)
      → ((p : ℕ) → old p → log' p ≡ log p) → Chain old first head log → Chain new first head log'
  chain_same head log log' to from same c = record {
    some = ⊎_elim (λ (e : head ≡ first). inl e) (λ (h : old head). inr (to head h)) c.some;
    highest = λ p h. c.highest p (from p h);
    next = λ p h. let n = c.next p (from p h) in subst (IsNext new first p) (sym (same p (from p h))) (record {
      is = ⊎_elim (λ (e : log p ≡ first). inl e) (λ (g : old (log p)). inr (to (log p) g)) n.is;
      less = n.less;
      most = λ q g less. n.most q (from q g) less;
    });
  }

  module _ (head own : ℕ) (log log' : ℕ → ℕ) (to : (p : ℕ) → old p → new p)
      (from : (p : ℕ) → new p → old p ⊎ (p ≡ own)) (here : new own) (c : Chain old first head log) where
    -- the head swings to a place above it, whose first word is the old head
    pub chain_swung : head < own → log' own ≡ head → ((p : ℕ) → old p → log' p ≡ log p) → Chain new first own log'
    chain_swung above aimed same = record {
      some = inr here;
      highest = λ p h. ⊎_elim (λ (g : old p). let a = c.highest p g in omega arith)
          (λ (e : p ≡ own). omega arith) (from p h);
      next = λ p h. ⊎_elim (λ (g : old p). before p g)
          (λ (e : p ≡ own). subst (λ (z : ℕ). IsNext new first z (log' z)) (sym e) newest) (from p h);
    }
      where
        newest : IsNext new first own (log' own)
        newest = subst (IsNext new first own) (sym aimed) (record {
          is = ⊎_elim (λ (e : head ≡ first). inl e) (λ (g : old head). inr (to head g)) c.some;
          less = above;
          most = λ q h less. ⊎_elim (λ (g : old q). c.highest q g) (λ (e : q ≡ own). absurd (omega arith)) (from q h);
        })

        before : (p : ℕ) → old p → IsNext new first p (log' p)
        before p g = (let n = c.next p g in let top = c.highest p g in subst (IsNext new first p) (sym (same p g)) (record {
          is = ⊎_elim (λ (e : log p ≡ first). inl e) (λ (z : old (log p)). inr (to (log p) z)) n.is;
          less = n.less;
          most = λ q h less. ⊎_elim (λ (z : old q). n.most q z less) (λ (e : q ≡ own). absurd (omega arith)) (from q h);
        }))

    -- a place is put in below a higher one, before what was next
    pub chain_spliced : (q x : ℕ) → old q → own < q → log q ≡ x → x < own → log' q ≡ own → log' own ≡ x
        → ((p : ℕ) → old p → p ≢ q → log' p ≡ log p) → Chain new first head log'
    chain_spliced q x at below was less now aimed same = record {
      some = ⊎_elim (λ (e : head ≡ first). inl e) (λ (g : old head). inr (to head g)) c.some;
      highest = λ p h. ⊎_elim (λ (g : old p). c.highest p g)
          (λ (e : p ≡ own). let top = c.highest q at in omega arith) (from p h);
      next = λ p h. ⊎_elim (λ (g : old p). each p g (ℕ_discrete p q))
          (λ (e : p ≡ own). subst (λ (z : ℕ). IsNext new first z (log' z)) (sym e) newest) (from p h);
    }
      where
        n : IsNext old first q (log q)
        n = c.next q at

        top_of : (r : ℕ) → old r → r < q → r ≤ x
        top_of r g l = subst (λ (z : ℕ). r ≤ z) was (n.most r g l)

        newest : IsNext new first own (log' own)
        newest = subst (IsNext new first own) (sym aimed) (record {
          is = ⊎_elim (λ (e : log q ≡ first). inl (sym was ∙ e)) (λ (g : old (log q)). inr (to x (subst old was g))) n.is;
          less = less;
          most = λ r h l. ⊎_elim (λ (g : old r). top_of r g (omega arith))
              (λ (e : r ≡ own). absurd (omega arith)) (from r h);
        })

        each : (p : ℕ) → old p → Dec (p ≡ q) → IsNext new first p (log' p)
        each p g (yes e) = subst (λ (z : ℕ). IsNext new first z (log' z)) (sym e) (subst (IsNext new first q) (sym now) (record {
          is = inr here;
          less = below;
          most = λ r h l. ⊎_elim (λ (z : old r). let t = top_of r z l in omega arith)
              (λ (f : r ≡ own). omega arith) (from r h);
        }))
        each p g (no ne) = (let m = c.next p g in subst (IsNext new first p) (sym (same p g ne)) (record {
          is = ⊎_elim (λ (e : log p ≡ first). inl e) (λ (z : old (log p)). inr (to (log p) z)) m.is;
          less = m.less;
          most = λ r h l. ⊎_elim (λ (z : old r). m.most r z l)
              (λ (f : r ≡ own). far p g m r f l (dec_lt p q) ne) (from r h);
        }))
          where
            far : (p : ℕ) → old p → IsNext old first p (log p) → (r : ℕ) → r ≡ own → r < p → Dec (p < q) → p ≢ q → r ≤ log p
            far p g m r f l (yes before) ne = (let t = top_of p g before in absurd (omega arith))
            far p g m r f l (no behind) ne = (let t = m.most q at (omega arith) in omega arith)
