-- `load_boundary`: a load of where an index begins or ends.
use Rattle.std.proofs.Common.{◌≡◌, ℕ, zero, suc, set, sym, refl, ap, ◌∙◌, subst, inr, arith, ◌≤◌, get_or, Some, slice_get}
use Rattle.fish_catalog.specs.declared.row.CatRow.{CatRow}
use Rattle.fish_rule.proofs.basics.FirstBoundaries.{to_word}
use Rattle.fish_rule.proofs.basics.Context.{Key, Learned, Rule, View, World, get_elem?, none, some}
use Rattle.fish_rule.proofs.classes.Loads.{learn_lasts, still_chained}
use Rattle.fish_rule.proofs.basics.Lasts.{Lasts}
use Rattle.fish_rule.specs.Boundaries.{IsUnended}
use Rattle.fish_rule.specs.BoundarySteps.{CanLoadBoundary, after_load_boundary, with_boundary, with_end}
use Rattle.fish_rule.specs.Facts.{Facts}
use Rattle.fish_rule.specs.Registry.{IsRegistered, row_at}
use Rattle.fish_rule.specs.Views.{AllOf}
use Rattle.fish_rule.specs.World.{world}
use Rattle.fish_rule.proofs.classes.Allowed.{Allows, Ruled, Sat, Told, allowed, loaded_words, stands, step, there, word_at}
use Rattle.fish_rule.proofs.basics.Lists.{all_among}
use Rattle.fish_rule.proofs.basics.Regions.{few_numbers}
use Rattle.fish_rule.specs.Told.{ToldLoadBoundary}

module _ {k : Key} {w : World} (r : Rule k w) (id : ℕ) {v : View} (at : get_elem? w.views id ≡ some v) where
  -- what was learned is so with other facts about the registry
  same_facts : (l : Learned) → l ≡ record v.learned { words = l.words; unended = l.unended } → Facts k w.count w.dir w.log r.start l
  same_facts l same =
      let h = r.facts id v at in
      subst (Facts k w.count w.dir w.log r.start) (sym same) (assumption h)

  module _ (n i : ℕ) (can : CanLoadBoundary n i) where
    -- the view afterwards
    abbrev seer : View
    seer = after_load_boundary v n i (w.registry (row_at n i))

    -- a boundary that is set lasts
    boundary_read : (x : ℕ) → w.registry (row_at n i) ≡ x
        → AllOf (IsRegistered k w.registry) (with_boundary (row_at n i) x v.learned.words)
    boundary_read zero is = (r.registry.each id v at).read
    boundary_read (suc m) is = (
      record {
        lasts = inr (inr (inr ((n, i, can.few, can.bound, refl), λ e. absurd (omega arith))));
        word = is;
      },
      (r.registry.each id v at).read,
    )

    -- an end that the row has as the table begins is the word of its end
    ended : (row : CatRow) (to : ℕ) → slice_get k.rows.value n ≡ Some row → row.to ≡ Some to
        → w.registry (row_at n 1) ≡ suc to
    ended row to there is = (r.registry.boundaries.opened n row can.few there).stays 1 to (omega arith) (to_word row to is)

    -- the definition had not ended below its end, nor, where it has none, below what is settled
    end_read : (j x : ℕ) → i ≡ j → w.registry (row_at n i) ≡ x → AllOf (IsUnended k w.count w.registry r.version_of)
        (with_end n j v.learned.settled x v.learned.unended)
    end_read zero x at_ is = (r.registry.each id v at).unended
    end_read (suc j) zero at_ is =
        let few = can.bound in
        let last : i ≡ 1 = omega arith in
        let word : w.registry (row_at n 1) ≡ 0 = ap (λ (z : ℕ). w.registry (row_at n z)) (sym last) ∙ is in
        let floor = r.floors id v at in
        let within = r.settling.within in (
          record {
            within = omega arith;
            running = λ m above below. r.registry.boundaries.running n (r.version_of m) can.few word
                (r.registry.versions.upto m above (omega arith));
            opened = λ row to there e. (let end = ended row to there e in absurd (omega arith));
          },
          (r.registry.each id v at).unended,
        )
    end_read (suc j) (suc m) at_ is =
        let few = can.bound in
        let last : i ≡ 1 = omega arith in
        let word : w.registry (row_at n 1) ≡ suc m = ap (λ (z : ℕ). w.registry (row_at n z)) (sym last) ∙ is in
        let within = r.registry.boundaries.claimed n 1 m can.few (omega arith) word in (
          record {
            within = within;
            running = λ p above below. r.registry.boundaries.unended n m p can.few word above below (omega arith);
            opened = λ row to there e. (let end = ended row to there e in omega arith);
          },
          (r.registry.each id v at).unended,
        )

    -- a load of a boundary keeps the rule, and all that lasts
    pub load_boundary_lasts : Lasts r (record w { views = set w.views id seer })
    load_boundary_lasts =
        let stays = r.registry.each id v at in
        let u : View = seer in
        let still = still_chained r id at u.learned v.tail v.round u.clock in
        let x : ℕ = w.registry (row_at n i) in
        learn_lasts r id at u.learned v.tail v.round u.clock (r.tails id v at) (same_facts u.learned refl)
        (r.opens id v at) (r.floors id v at) (assumption still)
        (assumption (stays, boundary_read x refl, end_read i x refl refl))

-- a load of a boundary
pub load_boundary_allowed : (given k : Key) → given ≡ k → (size id : ℕ) (me : Sat) (n i p : ℕ) → me.0.about ≡ k
    → CanLoadBoundary n i → p ≡ row_at n i
    → Allows (Ruled given) size id me p (λ n. n) (ToldLoadBoundary (step size p 0 0 none) me)
load_boundary_allowed given k same size id me n i p about can is =
    allowed given k same size id me p (λ n. n) (ToldLoadBoundary (step size p 0 0 none) me) (λ ws vs wide r at.
    let w : World = world k ws vs in
    let x : ℕ = get_or ws p 0 in
    let few = can.few in
    let bound = can.bound in
    let word : x ≡ w.registry (row_at n i) = word_at k ws vs p (omega arith) (omega arith) ∙ ap w.registry is in
    let v' : View = after_load_boundary me.0 n i x in
    let kept : Rule k (record w { views = set vs id v' }) =
    subst (λ (z : ℕ). Rule k (record w { views = set vs id (after_load_boundary me.0 n i z) })) (sym word)
    (load_boundary_lasts r id at n i can).0 in (
      v',
      loaded_words k ws (set vs id v') p kept,
      record {
        told = λ m j less small at_.
            let a : n ≡ m = omega arith in
            let b : i ≡ j = omega arith in
            subst (λ (z : ℕ × ℕ). Told me (after_load_boundary me.0 z.0 z.1 x) (v', me.1)) (λ d. (a d, b d))
            (record { view = refl; held = refl; stands = stands k _ id v' kept about (there vs id me.0 v' at) });
        few = small_word x (w.registry (row_at n i)) word (λ y e.
            let most = r.registry.boundaries.claimed n i y can.few can.bound e in
            let numbers = few_numbers r in omega arith);
        known = λ y among same.
            let read = all_among (IsRegistered k w.registry) y me.0.learned.words (r.registry.each id me.0 at).read among in
            word ∙ ap w.registry (sym is ∙ sym same) ∙ read.word;
      },
    ))
  where
    -- a word is small where it is that of a small number
    small_word : (x y : ℕ) → x ≡ y → ((m : ℕ) → y ≡ suc m → m ≤ 268435455) → x ≤ 268435456
    small_word Rattle.std.specs.Prelude.zero y is h = omega arith
    small_word (suc x) y is h = (let a = h x (sym is) in omega arith)
