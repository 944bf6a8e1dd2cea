-- The words of a refusal.
use Rattle.std.specs.Prelude.{ℕ, List, ◌++◌, codes, decimal, unwrap_or}
use Rattle.fish_recover.specs.declared.refusal.OpenRefusal.{OpenRefusal}
use Rattle.fish_recover.specs.declared.refusal.OpenRefusal.TheVariants as refusal

-- a shape: its pages and its bits
abbrev pub shape_text : ℕ → ℕ → List ℕ
shape_text pages bits = decimal pages ++ (codes " " ++ decimal bits)

-- why a store isn't opened. A number of a shape that isn't asked for is told as the store's
abbrev pub open_refusal_text : OpenRefusal → List ℕ
open_refusal_text refusal.NotAStore = codes "not a store"
open_refusal_text (refusal.Damaged n) = codes "damaged " ++ decimal n
open_refusal_text (refusal.ShapeDiffers kept asked) =
    codes "shape " ++ (shape_text kept.pages kept.bucket_bits ++ (codes " asked " ++ shape_text
    (unwrap_or asked.pages kept.pages) (unwrap_or asked.bucket_bits kept.bucket_bits)))
open_refusal_text refusal.DiskFault = codes "disk"
open_refusal_text refusal.OutOfMemory = codes "out of memory"
