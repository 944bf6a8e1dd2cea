-- What agrees with a commit agrees with a later one: its rows went on, and it has more lines.
use Rattle.std.proofs.Common.{◌≡◌, ℕ, zero, suc, ◌^◌, ◌<◌, ◌≤◌, inl, inr, List, refl, sym}
use Rattle.std.proofs.Common.{ap, subst, ◌∙◌, arith, Some, length, slice_get}
use Rattle.std.proofs.Math.Decide.{dec_lt}
use Rattle.std.proofs.lemmas.Option.{same_Some, slice_get_within}
use Rattle.fish_catalog.specs.declared.commit.Commit.{Commit}
use Rattle.fish_catalog.specs.declared.entry.Entry.{Entry}
use Rattle.fish_catalog.specs.declared.row.CatRow.{CatRow}
use Rattle.fish_catalog.specs.Covering.{Covers}
use Rattle.fish_flush.proofs.KeyedValues.{some_none, under_above}
use Rattle.fish_flush.specs.Rows.{HaveGrown}
use Rattle.fish_image.proofs.Agreement.{agrees_number}
use Rattle.fish_image.proofs.Spelling.{parted}
use Rattle.fish_image.specs.Log.{Agrees, FollowsIn, HasRowKeys, HasValues, values_under}
use Rattle.fish_image.specs.Reached.{AreLinked, Reached, reached_after, with_keys}
use Rattle.fish_lang.specs.Definition.{Definition}
use Rattle.fish_lang.specs.Language.{IsAccepted}
use Rattle.fish_layout.specs.declared.parts.BodyParts.{BodyParts}
use Rattle.fish_psf.specs.Records.{evaluation}

-- rows that stay have gone on
pub grown_self : (n : ℕ) (rows : List CatRow) → HaveGrown n rows rows
grown_self n rows = record {
  texts = λ id row there. (row, there, refl);
  covers = λ id m row there less covers. (row, there, covers);
}

-- where a record has the keys that the old rows ask, the text of each new row is a definition
abbrev pub AreMeant : List CatRow → List CatRow → Type 0
AreMeant old new = (m : ℕ) (p : BodyParts) → HasRowKeys old m p → (id : ℕ) (row : CatRow) → slice_get new id ≡ Some row
    → (said : Definition) × IsAccepted row.def said

-- those of rows that stay are
pub meant_self : (rows : List CatRow) → AreMeant rows rows
meant_self rows m p has id row there = (let h = has.values id row there in (h.said, h.read))

module _ (n m : ℕ) (old new : List CatRow) (p : BodyParts) (less : m < n) (grown : HaveGrown n old new) (meant : AreMeant old new)
    (has : HasRowKeys old m p) where
  -- an old row that went on has the values that it had
  went_on : (id : ℕ) (row was : CatRow) → slice_get new id ≡ Some row → slice_get old id ≡ Some was
      → HasValues row m p (values_under id p.keys)
  went_on id row was there before =
      let h = has.values id was before in
      let t = grown.texts id was before in
      let text : was.def ≡ row.def = sym t.2 ∙ ap (λ (z : CatRow). z.def) (same_Some t.0 row (sym t.1 ∙ there)) in
      record {
        said = h.said;
        read = subst (λ (z : List ℕ). IsAccepted z h.said) text h.read;
        some = h.some;
        all = λ covers.
            let c = grown.covers id m row there less covers in
            h.all (subst (λ (z : CatRow). Covers z m) (same_Some c.0 was (sym c.1 ∙ before)) c.2);
      }

  -- one that came has none
  came : (id : ℕ) (row : CatRow) → slice_get new id ≡ Some row → length old ≤ id → HasValues row m p (values_under id p.keys)
  came id row there above =
      let t = meant m p has id row there in
      record {
        said = t.0;
        read = t.1;
        some = some_none (values_under id p.keys) (evaluation t.0 p.form p.payload)
            (under_above id (length old) p.keys has.known above);
        all = λ covers.
            let c = grown.covers id m row there less covers in
            let within = slice_get_within old id c.0 c.1 in
            absurd (omega arith);
      }

  -- the keys that the old rows ask of a record are those that the new ones ask
  grown_keys : HasRowKeys new m p
  grown_keys = record {
    known = λ j k there.
        let t = parted old k.id (has.known j k there) in
        let g = grown.texts k.id t.0 t.1 in
        slice_get_within new k.id g.0 g.1;
    values = λ id row there. by id row there (dec_lt id (length old));
  }
    where
      by : (id : ℕ) (row : CatRow) → slice_get new id ≡ Some row → Dec (id < length old) → HasValues row m p (values_under id p.keys)
      by id row there (yes few) = (let t = parted old id few in went_on id row t.0 there t.1)
      by id row there (no many) = came id row there (omega arith)

module _ (c d : Commit) (n : ℕ) (bits : c.bucket_bits ≡ d.bucket_bits) (more : c.lines ≤ d.lines)
    (grown : HaveGrown n c.rows d.rows) (meant : AreMeant c.rows d.rows) where
  -- one region
  follows_in : (s : Reached) (lines : ℕ) (r : List ℕ) (t : Reached) → s.number < n → FollowsIn c s lines r t → FollowsIn d s lines r t
  follows_in s lines r t less (inl v) =
      let within = v.0.within in
      inl (record { some = v.0.some; words = v.0.words; crosses = v.0.crosses; within = omega arith }, v.1)
  follows_in s lines r t less (inr v) =
      let kept = v.1.kept in
      let within = kept.within in
      inr (
        v.0,
        record {
          size = v.1.size;
          body = v.1.body;
          number = v.1.number;
          kept = record {
            reads = kept.reads;
            in_page = kept.in_page;
            within = omega arith;
            keys = grown_keys n s.number c.rows d.rows v.0 less grown meant kept.keys;
            links = subst (λ (b : ℕ). AreLinked (2 ^ b) s.line 0 v.0.keys s.places) bits kept.links;
          };
        },
        subst (λ (b : ℕ). t ≡ reached_after s lines (with_keys (2 ^ b) s.line 0 v.0.keys s.places)
            (Rattle.fish_catalog.specs.declared.entry.Entry.TheVariants.Stored v.0.lane v.0.form v.0.payload)) bits v.2,
      )

  -- all regions
  pub grown_agrees : (words : List ℕ) (k : ℕ) (s : Reached) → k ≤ n → Agrees c words k s → Agrees d words k s
  grown_agrees words zero s less h = h
  grown_agrees words (suc k) s less h =
      let number = agrees_number c words k h.0 h.1 in
      (h.0, grown_agrees words k h.0 (omega arith) h.1, follows_in h.0 _ _ s (omega arith) h.2)
