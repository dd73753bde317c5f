-- THE COLUMNS OF A JOIN, OF A PRODUCT AND OF A TRANSPOSE (document 02, A.2), place by place and in number.
use Rattle.std.specs.Prelude.{ℕ, zero, suc, ◌+◌, ◌-◌, ◌≤◌, ◌<◌, ◌≡◌, refl}
use Rattle.std.proofs.Common.{sym, ap, ◌∙◌, arith}
use Rattle.std.proofs.Math.Option.{some}
use Rattle.record.specs.Sort.{Sort, Sorts, end, ◌then◌, set, tuple, count, sizes, size}
use Rattle.record.specs.Cases.{none-some, some_inj}
use Rattle.row_rules.specs.Lists.{joined, appended}
use Rattle.row_rules.specs.Verdict.{sort}
use Rattle.check_rules.specs.Forms.{backwards}
use Rattle.check_rules.specs.Ranks.{smt_lib}
use Rattle.check_rules.specs.Checked.{values, operated}
use Rattle.check_rules.specs.Columns.{columns_in}
use Rattle.check_rules.proofs.AppTheorems.{entry}
use Rattle.check_rules.proofs.RelationTheorems.{join-accepted, product-accepted, transpose-accepted}
use Rattle.check_rules.proofs.RefusalLaws.{by_equal}

---------------------------------------------------------------- one list behind another
pub count-appended : (ss ts : Sorts) → count (appended ss ts) ≡ count ss + count ts
unfolding count appended
count-appended end ts = omega arith
count-appended (s then ss) ts = let e = count-appended ss ts in omega (arith, e)

pub sizes-appended : (ss ts : Sorts) → sizes (appended ss ts) ≡ sizes ss + sizes ts
unfolding size appended
sizes-appended end ts = omega arith
sizes-appended (s then ss) ts = let e = sizes-appended ss ts in omega (arith, e)

pub count-joined : (ss : Sorts) (c : Sort) → count (joined ss c) ≡ count ss + 1
unfolding count joined
count-joined end c = omega arith
count-joined (s then ss) c = let e = count-joined ss c in omega (arith, e)

sizes-joined : (ss : Sorts) (c : Sort) → sizes (joined ss c) ≡ sizes ss + size c
unfolding size joined
sizes-joined end c = omega arith
sizes-joined (s then ss) c = let e = sizes-joined ss c in omega (arith, e)

-- A list backwards is as long and as large.
pub count-backwards : (ss : Sorts) → count (backwards ss) ≡ count ss
unfolding count backwards
count-backwards end = refl
count-backwards (s then ss) = let e = count-backwards ss in let f = count-joined (backwards ss) s in omega (arith, e, f)

pub sizes-backwards : (ss : Sorts) → sizes (backwards ss) ≡ sizes ss
unfolding size backwards
sizes-backwards end = refl
sizes-backwards (s then ss) = let e = sizes-backwards ss in let f = sizes-joined (backwards ss) s in omega (arith, e, f)

entry-left : (ss ts : Sorts) (i : ℕ) → i < count ss → entry (appended ss ts) i ≡ entry ss i
unfolding entry appended count
entry-left end ts i h = absurd (omega arith)
entry-left (s then ss) ts zero h = refl
entry-left (s then ss) ts (suc i) h = entry-left ss ts i (omega arith)

entry-right : (ss ts : Sorts) (i : ℕ) → entry (appended ss ts) (count ss + i) ≡ entry ts i
unfolding entry appended count
entry-right end ts i = let z : 0 + i ≡ i = omega arith in rw z refl
entry-right (s then ss) ts i = let z : suc (count ss) + i ≡ suc (count ss + i) = omega arith in rw z (entry-right ss ts i)

entry-joined : (ss : Sorts) (c : Sort) (i : ℕ) → i < count ss → entry (joined ss c) i ≡ entry ss i
unfolding entry joined count
entry-joined end c i h = absurd (omega arith)
entry-joined (s then ss) c zero h = refl
entry-joined (s then ss) c (suc i) h = entry-joined ss c i (omega arith)

-- A list with this last entry, and one with this first one.
last-entry : (ss : Sorts) (c : Sort) → entry ss (count ss - 1) ≡ some c → (rs : Sorts) × (ss ≡ joined rs c)
unfolding entry joined count
last-entry end c h = none-some h
last-entry (s then end) c h = (end, ap (◌then end) (some_inj h))
last-entry (s then (r then rs)) c h =
    let z : suc (suc (count rs)) - 1 ≡ suc (count rs) = omega arith in
    let y : suc (count rs) - 1 ≡ count rs = omega arith in
    let (us, e) = last-entry (r then rs) c (rw y (rw z at h)) in (s then us, ap (s then◌) e)

first-entry : (ss : Sorts) (c : Sort) → entry ss 0 ≡ some c → (rs : Sorts) × (ss ≡ c then rs)
unfolding entry
first-entry end c h = none-some h
first-entry (s then ss) c h = (ss, ap (◌then ss) (some_inj h))

---------------------------------------------------------------- the columns
-- THE JOIN of two relations has all columns of the left one but its last, then all of the right one but its first, each in its order:
abbrev pub JoinColumns : Sorts → Sorts → Type 0
JoinColumns ls rs =
    (s : Sort) × (operated smt_lib 133 (set (tuple ls) then set (tuple rs) then end) ≡ sort s) × (s ≡ set (tuple (columns_in s)))
    × (count (columns_in s) + 2 ≡ count ls + count rs)
    × ((i : ℕ) → i + 1 < count ls → entry (columns_in s) i ≡ entry ls i)
    × ((i : ℕ) → count ls ≤ i + 1 → entry (columns_in s) i ≡ entry rs (i + 2 - count ls))

join-at : (as' : Sorts) (c : Sort) (bs : Sorts) → JoinColumns (joined as' c) (c then bs)
unfolding values entry count
join-at as' c bs =
    let s = set (tuple (appended as' bs)) in
    let p = count-appended as' bs in let q = count-joined as' c in (
      s,
      (join-accepted (set (tuple (joined as' c)) then set (tuple (c then bs)) then end) s).1 (refl, (as', c, bs, refl, refl)),
      refl,
      omega (arith, p, q),
      λ i l. entry-left as' bs i (omega (arith, q, l)) ∙ sym (entry-joined as' c i (omega (arith, q, l))),
      λ i l. let z : i + 2 - count (joined as' c) ≡ suc (i - count as') = omega (arith, q, l) in
          let y : i ≡ count as' + (i - count as') = omega (arith, q, l) in
          ap (entry (appended as' bs)) y ∙ entry-right as' bs (i - count as') ∙ sym (ap (entry (c then bs)) z),
    )

-- so of every two relations where the last column of the left one is the first of the right one.
pub join-columns : (ls rs : Sorts) (c : Sort) → entry ls (count ls - 1) ≡ some c → entry rs 0 ≡ some c → JoinColumns ls rs
join-columns ls rs c h g =
    let (as', e) = last-entry ls c h in
    let (bs, f) = first-entry rs c g in rw (e, f) (join-at as' c bs)

-- THE PRODUCT of two relations: all columns of the left one, then all of the right one, each in its order.
pub product-columns : (as' bs : Sorts)
    → (s : Sort) × (operated smt_lib 134 (set (tuple as') then set (tuple bs) then end) ≡ sort s) × (s ≡ set (tuple (columns_in s)))
    × (count (columns_in s) ≡ count as' + count bs)
    × ((i : ℕ) → i < count as' → entry (columns_in s) i ≡ entry as' i)
    × ((i : ℕ) → count as' ≤ i → entry (columns_in s) i ≡ entry bs (i - count as'))
unfolding values
product-columns as' bs =
    let s = set (tuple (appended as' bs)) in (
      s,
      (product-accepted (set (tuple as') then set (tuple bs) then end) s).1 (refl, (as', bs, refl, refl)),
      refl,
      count-appended as' bs,
      λ i l. entry-left as' bs i l,
      λ i l. let y : i ≡ count as' + (i - count as') = omega (arith, l) in ap (entry (appended as' bs)) y ∙ entry-right as' bs (i - count as'),
    )

---------------------------------------------------------------- transpose
entry-last : (ss : Sorts) (c : Sort) → entry (joined ss c) (count ss) ≡ some c
unfolding entry joined count
entry-last end c = refl
entry-last (s then ss) c = entry-last ss c

entry-backwards : (ss : Sorts) (i : ℕ) → i < count ss → entry (backwards ss) i ≡ entry ss (count ss - 1 - i)
unfolding entry backwards count
entry-backwards end i h = absurd (omega arith)
entry-backwards (s then ss) i h =
    let e = count-backwards ss in
    by_equal i (count ss)
    (λ q z.
    let a : i ≡ count (backwards ss) = z ∙ sym e in
    let b : suc (count ss) - 1 - i ≡ 0 = omega (arith, z) in
    ap (entry (joined (backwards ss) s)) a ∙ entry-last (backwards ss) s ∙ sym (ap (entry (s then ss)) b))
    (λ q d.
    let l : i < count ss = omega (arith, h, d) in
    let b : suc (count ss) - 1 - i ≡ suc (count ss - 1 - i) = omega (arith, l) in
    entry-joined (backwards ss) s i (omega (arith, l, e)) ∙ entry-backwards ss i l ∙ sym (ap (entry (s then ss)) b))

-- THE COLUMNS OF A TRANSPOSE, for every tuple: as many, the last first.
pub transpose-columns : (cs : Sorts)
    → (s : Sort) × (operated smt_lib 131 (set (tuple cs) then end) ≡ sort s) × (s ≡ set (tuple (columns_in s)))
    × (count (columns_in s) ≡ count cs)
    × ((i : ℕ) → i < count cs → entry (columns_in s) i ≡ entry cs (count cs - 1 - i))
unfolding values
transpose-columns cs = (
  set (tuple (backwards cs)),
  (transpose-accepted (set (tuple cs) then end) (set (tuple (backwards cs)))).1 (refl, (cs, refl, refl)),
  refl,
  count-backwards cs,
  λ i l. entry-backwards cs i l,
)
