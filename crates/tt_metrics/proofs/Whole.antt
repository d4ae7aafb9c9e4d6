-- Tables that the definitions read have no defect.
use Rattle.std.proofs.Common.{◌≡◌, ℕ, ◌*◌, nat_lt, false, List, length, Result, Ok, inl, inr, subst, sym}
use Rattle.std.specs.Prelude.{not, ◌==◌, IsOkAnd}
use Rattle.tt_core.specs.Chains.{came-through, passed-on, passed, passed-else, not-both, not-neither, not-below, not-zero}
use Rattle.tt_core.specs.Directory.{Directory, needed_table, HasNo}
use Rattle.tt_core.specs.Faults.{Fault}
use Rattle.tt_core.specs.Numbers.{unsigned_at}
use Rattle.tt_core.specs.Outcomes.{◌>>=◌}
use Rattle.tt_core.proofs.Whole.{table-good}
use Rattle.tt_metrics.specs.declared.head.Head.{Head}
use Rattle.tt_metrics.specs.declared.hhea.Hhea.{Hhea}
use Rattle.tt_metrics.specs.declared.maxp.Maxp.{Maxp}
use Rattle.tt_metrics.specs.Head.{head_tag, is_magic, is_em, is_loca_format, head_fields, head_in, head_of, IsBadHead, IsHeadDefect}
use Rattle.tt_metrics.specs.Hhea.{hhea_tag, hhea_fields, hhea_in, hhea_of, IsBadHhea, IsHheaDefect}
use Rattle.tt_metrics.specs.Hmtx.{hmtx_tag, hmtx_of, IsHmtxDefect}
use Rattle.tt_metrics.specs.Laws.{MetricsAreWhole}
use Rattle.tt_metrics.specs.Maxp.{maxp_tag, is_maxp_version, versioned_maxp, maxp_fields, maxp_in, maxp_of, IsBadMaxp, IsMaxpDefect}
use Rattle.tt_metrics.specs.Metrics.{metrics_of}
use Rattle.tt_metrics.specs.Tables.{or_short, IsShort}

-- a table that is read is long enough, and the read table is the table itself
long-enough : (tag : List ℕ) (least : ℕ) (table read : List ℕ) → or_short tag least table ≡ Ok read
    → (nat_lt (length table) least ≡ false) × (read ≡ table)
long-enough tag least table read was =
    let p = passed (nat_lt (length table) least) _ table read was in (p.0, sym p.1)

head-bytes-whole : (head : List ℕ) (h : Head) → head_in head ≡ Ok h → HasNo (IsBadHead head)
unfolding head_in
head-bytes-whole head h was =
    let read = came-through (or_short head_tag 54 head) head_fields h was in
    let long = long-enough head_tag 54 head read.value read.first in
    let fields : head_fields head ≡ Ok h = rw long.1 at read.rest in
    let magic = passed-on (not (is_magic (unsigned_at head 12 4))) _ _ h fields in
    let em = passed-on (not (is_em (unsigned_at head 18 2))) _ _ h magic.1 in
    let format = passed-on (not (is_loca_format (unsigned_at head 50 2))) _ _ h em.1 in
    λ fault bad. elim bad [
      | inl short ↦ not-below (length head) 54 long.0 short.0
      | inr (inl other) ↦ not-neither (is_magic (unsigned_at head 12 4)) magic.0 other.1
      | inr (inr (inl other)) ↦ not-neither (is_em (unsigned_at head 18 2)) em.0 other.1
      | inr (inr (inr other)) ↦ not-neither (is_loca_format (unsigned_at head 50 2)) format.0 other.1
    ]

maxp-bytes-whole : (maxp : List ℕ) (m : Maxp) → maxp_in maxp ≡ Ok m → HasNo (IsBadMaxp maxp)
unfolding maxp_in
maxp-bytes-whole maxp m was =
    let read = came-through (or_short maxp_tag 4 maxp >>= versioned_maxp >>= or_short maxp_tag 32) maxp_fields m was in
    let whole = came-through (or_short maxp_tag 4 maxp >>= versioned_maxp) (or_short maxp_tag 32) read.value
    read.first in
    let word = came-through (or_short maxp_tag 4 maxp) versioned_maxp whole.value whole.first in
    let begins = long-enough maxp_tag 4 maxp word.value word.first in
    let versioned : versioned_maxp maxp ≡ Ok whole.value = rw begins.1 at word.rest in
    let version = passed-else (is_maxp_version (unsigned_at maxp 0 4)) _ maxp whole.value versioned in
    let rest : or_short maxp_tag 32 maxp ≡ Ok read.value = rw (sym version.1) at whole.rest in
    let long = long-enough maxp_tag 32 maxp read.value rest in
    let fields : maxp_fields maxp ≡ Ok m = rw long.1 at read.rest in
    let glyphs = passed-on (unsigned_at maxp 4 2 == 0) _ _ m fields in
    λ fault bad. elim bad [
      | inl short ↦ not-below (length maxp) 32 long.0 short.0
      | inr (inl other) ↦ not-both (is_maxp_version (unsigned_at maxp 0 4)) version.0 other.1
      | inr (inr none) ↦ not-zero (unsigned_at maxp 4 2) glyphs.0 none.1
    ]

hhea-bytes-whole : (hhea : List ℕ) (h : Hhea) → hhea_in hhea ≡ Ok h → HasNo (IsBadHhea hhea)
unfolding hhea_in
hhea-bytes-whole hhea h was =
    let read = came-through (or_short hhea_tag 36 hhea) hhea_fields h was in
    let long = long-enough hhea_tag 36 hhea read.value read.first in
    let fields : hhea_fields hhea ≡ Ok h = rw long.1 at read.rest in
    let pairs = passed-on (unsigned_at hhea 34 2 == 0) _ _ h fields in
    λ fault bad. elim bad [
      | inl short ↦ not-below (length hhea) 36 long.0 short.0
      | inr none ↦ not-zero (unsigned_at hhea 34 2) pairs.0 none.1
    ]

head-whole : (d : Directory) (h : Head) → head_of d ≡ Ok h → HasNo (IsHeadDefect d)
unfolding head_of
head-whole d h was =
    let by_table = came-through (needed_table d head_tag) head_in h was in
    table-good d head_tag by_table.value IsBadHead by_table.first
    (head-bytes-whole by_table.value h by_table.rest)

maxp-whole : (d : Directory) (m : Maxp) → maxp_of d ≡ Ok m → HasNo (IsMaxpDefect d)
unfolding maxp_of
maxp-whole d m was =
    let by_table = came-through (needed_table d maxp_tag) maxp_in m was in
    table-good d maxp_tag by_table.value IsBadMaxp by_table.first
    (maxp-bytes-whole by_table.value m by_table.rest)

hhea-whole : (d : Directory) (h : Hhea) → hhea_of d ≡ Ok h → HasNo (IsHheaDefect d)
unfolding hhea_of
hhea-whole d h was =
    let by_table = came-through (needed_table d hhea_tag) hhea_in h was in
    table-good d hhea_tag by_table.value IsBadHhea by_table.first
    (hhea-bytes-whole by_table.value h by_table.rest)

hmtx-whole : (d : Directory) (n : ℕ) (hmtx : List ℕ) → hmtx_of d n ≡ Ok hmtx
    → HasNo (IsHmtxDefect d n)
unfolding hmtx_of
hmtx-whole d n hmtx was =
    let by_table = came-through (needed_table d hmtx_tag) (or_short hmtx_tag (4 * n)) hmtx was in
    let long = long-enough hmtx_tag (4 * n) by_table.value hmtx by_table.rest in
    table-good d hmtx_tag by_table.value (IsShort hmtx_tag (4 * n)) by_table.first
    (λ fault short. not-below (length by_table.value) (4 * n) long.0 short.0)

pub metrics-whole : MetricsAreWhole
unfolding metrics_of
metrics-whole d m was =
    let by_head = came-through (head_of d) _ m was in
    let by_maxp = came-through (maxp_of d) _ m by_head.rest in
    let by_hhea = came-through (hhea_of d) _ m by_maxp.rest in
    let by_hmtx = came-through (hmtx_of d by_hhea.value.long_metrics) _ m by_hhea.rest in
    λ fault defect. elim defect [
      | inl head ↦ head-whole d by_head.value by_head.first fault head
      | inr (inl maxp) ↦ maxp-whole d by_maxp.value by_maxp.first fault maxp
      | inr (inr (inl hhea)) ↦ hhea-whole d by_hhea.value by_hhea.first fault hhea
      | inr (inr (inr hmtx)) ↦
          let P : Result Hhea Fault → Type 0 = λ r. IsOkAnd r (λ h. IsHmtxDefect d h.long_metrics fault) in
          hmtx-whole d by_hhea.value.long_metrics by_hmtx.value by_hmtx.first fault (subst P by_hhea.first hmtx)
    ]
