-- The table of a text, one layer after the other: each layer doubles the covers, and one whose letter does not stand in the text is not looked at. Assumes nothing.
--
--   Filled s n truth     the entries of the covers below n are those of the text s, in a list of 256
--   filled_first         the entry where nothing covers is the first
--   filled_more          and one entry more
--   half_below           the layer l counts at most 128
--   copied               where the letter of the layer l stands nowhere in the text, the entry at a cover with this layer, and none after it, is that without it
--   all_filled           all 256 are the table
use Rattle.std.specs.Prelude.{◌≡◌, Bool, true, false, List, ℕ, ◌+◌, ◌-◌, ◌^◌, ◌≤◌, ◌<◌, length, get_or, set}
use Rattle.std.proofs.Common.{sym, ap, subst, ◌∙◌, inl, inr, arith, length-set, pow_pos, pow_mono, get_or-set_same, get_or-set_other, below_none, below_more}
use Rattle.meaning.specs.Expression.{Handed, with_layer}
use Rattle.expression_laws.specs.Cover.{cover_of, Entry, Table}
use Rattle.expression_laws.specs.Meanings.{means_same}
use Rattle.expression_laws.specs.Covers.{cover_byte, no_layer, more_byte}
use Rattle.expression_laws.specs.Replace.{Unused, unused_same}

pub record Filled (s : List ℕ) (n : ℕ) (truth : List Bool) : Type 0 where
  pub size : length truth ≡ 256
  pub each : (k : ℕ) → k < n → Entry s (cover_of k) (get_or truth k false)

pub filled_more : (s : List ℕ) (n : ℕ) (truth : List Bool) (v : Bool) → n < 256 → Filled s n truth → Entry s (cover_of n) v → Filled s (n + 1) (set truth n v)
filled_more s n truth v h f e =
    record {
      size = simp length-set f.size;
      each = below_more _ n (λ k u. subst (Entry s (cover_of k)) (sym (get_or-set_other truth n k v false (λ q. omega arith))) (f.each k u))
          (subst (Entry s (cover_of n)) (sym (get_or-set_same truth n v false (let z = f.size in omega arith))) e);
    }

pub filled_first : (s : List ℕ) (truth : List Bool) → length truth ≡ 256 → Entry s (cover_of 0) (get_or truth 0 false) → Filled s 1 truth
filled_first s truth h e = record { size = h; each = below_more _ 0 (below_none _) e }

pub all_filled : (s : List ℕ) (n : ℕ) (truth : List Bool) → n ≡ 256 → Filled s n truth → Table s truth
all_filled s n truth e f = record { size = f.size; each = λ k h. f.each k (omega arith) }

pub half_below : (l : ℕ) → l < 8 → 2 ^ l ≤ 128
half_below l h = pow_mono {j = 7} (omega arith)

-- a letter that stands nowhere in the text has no part in its entry
unused_entry : (s : List ℕ) (h : Handed) (l : ℕ) (w v : Bool) → Unused l s → Entry s h v → Entry s (with_layer h l w) v
unused_entry s h l w v n (inl m) = inl (record { expr = m.expr; is = m.is; value = m.value ∙ unused_same h l m.is w n })
unused_entry s h l w v n (inr f) = inr f

entry_same : (s : List ℕ) (g h : Handed) (v : Bool) → ((l : ℕ) → l < 8 → g l ≡ h l) → Entry s g v → Entry s h v
entry_same s g h v e (inl m) = inl (means_same g h e m)
entry_same s g h v e (inr f) = inr f

-- so the entry at a cover below 2^l is that at the cover with the layer l more
more_entry : (s : List ℕ) (l k : ℕ) (v : Bool) → l < 8 → k < 2 ^ l → Unused l s → Entry s (cover_of k) v → Entry s (cover_of (k + 2 ^ l)) v
more_entry s l k v u h n e =
    entry_same s (with_layer (cover_of k) l true) (cover_of (k + 2 ^ l)) v
    (λ j w.
    sym (cover_byte (with_layer (cover_of k) l true) j w)
    ∙ ap (λ (m : ℕ). cover_of m j) (more_byte k l (omega (arith, half_below l u)) u (no_layer k l h)))
    (unused_entry s (cover_of k) l true v n e)

pub copied : (s : List ℕ) (l half m : ℕ) (truth : List Bool) → l < 8 → half ≡ 2 ^ l → half ≤ m → m < half + half → Unused l s → Filled s m truth
    → Entry s (cover_of m) (get_or truth (m - half) false)
copied s l half m truth u e a b n f =
    let q : m - half + 2 ^ l ≡ m = omega arith in
    let k = more_entry s l (m - half) (get_or truth (m - half) false) u (omega arith) n (f.each (m - half) (omega (arith, pow_pos l))) in
    subst (λ (j : ℕ). Entry s (cover_of j) (get_or truth (m - half) false)) q k
