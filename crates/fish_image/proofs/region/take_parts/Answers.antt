-- What was looked at is what is asked of a record.
use Rattle.std.proofs.Common.{◌≡◌, ◌+◌, ◌-◌, ◌/◌, ◌<◌, ◌^◌, ℕ, List, arith, length, refl, sym, ap, subst, ◌∙◌}
use Rattle.fish_catalog.specs.declared.entry.Entry.TheVariants.{Stored}
use Rattle.fish_layout.proofs.Sizes.{few_keys_of}
use Rattle.fish_layout.specs.declared.parts.KeyPart.{KeyPart}
use Rattle.fish_image.specs.Log.{behind_record}
use Rattle.fish_image.specs.Progress.{AreHeads}
use Rattle.fish_image.specs.Reached.{AreLinked, with_keys}
use Rattle.fish_layout.specs.Pages.{page_of}
use Rattle.fish_image.specs.within.Regions.{HasKeysIn}
use Rattle.fish_image.specs.declared.terms.IndexRow.{IndexRow}
use Rattle.fish_image.proofs.RowKeys.{keys_in, keys_out}
use Rattle.fish_image.proofs.region.take_parts.Goals as goal

pub returns-then-not-branch : goal.returns-then-not-branch
returns-then-not-branch c k s terms h n follows =
    let p = c.args.parts.now in
    let asked = keys_in terms.rows s.number p follows.0.reads follows.0.keys in
    let has = c.in_ok-is_kept.ensures.1
    (subst (λ (xs : List IndexRow). HasKeysIn xs c.args.at.now.number p) (sym c.as_slice.ensures.value)
    (subst (λ (m : ℕ). HasKeysIn c.args.terms.now.rows.items m p) (sym h.number) asked)) in
    absurd (cc (has, c.if-not-branch.true))

pub link-requires-clause-few : goal.link-requires-clause-few
link-requires-clause-few c = let size = ap length c.as_slice-2.ensures in let few = few_keys_of c.requires.proper in omega arith

-- the links and the heads, by what the commit says
by_commit : (n m line at : ℕ) (ks keys : List KeyPart) (places : List (ℕ × ℕ)) (now : List ℕ) → n ≡ m → line ≡ at → ks ≡ keys
    → AreLinked n line 0 ks places × AreHeads n (with_keys n line 0 ks places) now
    → AreLinked m at 0 keys places × AreHeads m (with_keys m at 0 keys places) now
by_commit n m line at ks keys places now size place same h =
    let P : ℕ → ℕ → List KeyPart → Type 0 =
    λ n line ks. AreLinked n line 0 ks places × AreHeads n (with_keys n line 0 ks places) now in
    subst (λ (k : List KeyPart). P m at k) same (subst (λ (l : ℕ). P m l ks) place (subst (λ (k : ℕ). P k line ks) size h))

pub returns : goal.returns
returns c k s terms h =
    let p = c.args.parts.now in
    let linked = by_commit _ (2 ^ k.bucket_bits) _ s.line _ p.keys s.places _ h.heads.size h.line c.as_slice-2.ensures
    (c.if-not-link.ensures s.places (subst (λ (m : ℕ). AreHeads m s.places c.args.at.now.heads.items) (sym h.heads.size) h.heads)) in
    let places : List (ℕ × ℕ) = with_keys (2 ^ k.bucket_bits) s.line 0 p.keys s.places in
    let asked = c.in_ok-is_kept.ensures.0 c.if-not-branch.false in
    let has =
    subst (λ (m : ℕ). HasKeysIn c.args.terms.now.rows.items m p) h.number
    (subst (λ (xs : List IndexRow). HasKeysIn xs c.args.at.now.number p) c.as_slice.ensures.value asked) in
    let line = h.line in
    let lines = terms.lines in
    let within = c.requires.can.within in
    let one : c.args.at.now.line / 32768 < (c.args.at.now.line + c.args.lines - 1) / 32768 → ⊥ =
    λ less. absurd (cc (c.crosses_page.ensures.1 less, c.if-crosses_page.false)) in
    let some_ = c.requires.some in
    let in_page : page_of (c.args.at.now.line + c.args.lines - 1) ≡ page_of c.args.at.now.line = omega arith in (
      behind_record k s c.args.lines p,
      (
        record {
          reads = has.reads;
          in_page = ap (λ (l : ℕ). page_of (l + c.args.lines - 1)) (sym line) ∙ in_page ∙ ap page_of line;
          within = omega arith;
          keys = keys_out terms.rows s.number p has;
          links = linked.0;
        },
        refl,
      ),
      c.in_ok-pass.ensures k (record s { places = places }) (Stored p.lane p.form p.payload)
          (record { number = h.number; line = h.line; page = h.page; heads = linked.1; starts = h.starts }),
    )
