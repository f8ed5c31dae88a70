-- Demand 2 holds, and what change requests 2 and 5 say of strips, by the laws of crates bits, limbs, costume, actor and block_writer and of the files
-- beside this one.
use Rattle.std.proofs.Common.{◌≡◌, refl, sym, ap, ◌∙◌, Bool, true, false, cond, List, ◌++◌, ◌↔◌, ℕ, ◌-◌, ◌/◌, ◌<◌, arith, eqb, length, drop, eq-eqb, Err}
use mathlib.Core.Bool.{false≢true}
use Rattle.number.specs.Buffer.{over}
use Rattle.bits.proofs.ReaderLaws as reader
use Rattle.actor.specs.Hidden.{hidden_number, hidden_at, hidden_of, number, hides, value, answered}
use Rattle.actor.proofs.ActorLaws as actor
use Rattle.limbs.specs.Limb.{limb_at, draws, draws_number, drawn_of}
use Rattle.limbs.specs.Limb as limb
use Rattle.limbs.proofs.Theorems.{tick-limb}
use Rattle.costume.specs.Record.{entry_of, begun_limb}
use Rattle.costume.specs.Start.{offset_at, defined, start_number, start_bytes}
use Rattle.costume.proofs.Theorems.{start_limb, undefined_unchanged}
use Rattle.block_writer.specs.Block.{body_for, block_of, smap_tag, plane_tag}
use Rattle.block_writer.proofs.ReadBack.{Accepted, smap-accepted, smap-call-reads_in, plane-accepted, plane-call-reads_in}
use Rattle.demands.specs.Behind.{Behind}
use Rattle.demands.specs.Demand2.{Bytes, Reads, Writes, Hides, Demand2}
use Rattle.demands.specs.Request2.{Request2}
use Rattle.demands.specs.Request5.{Request5}
use Rattle.demands.proofs.StripReads as strips
use Rattle.demands.proofs.LoadReads as load
use Rattle.demands.proofs.HeaderReads as header
use Rattle.demands.proofs.WrittenRoom.{written-room, every-picture}
use Rattle.demands.proofs.Request7.{request7}

-- ---- what is read

module _ (s l : List ℕ) (t count v chore direction : ℕ) (ok : start_number s l t count v chore direction ≡ 0) (payload : Bytes s) (lent : Bytes l) (i : ℕ)
    (in-i : i < 16) where
  limb_started : (d : Bool) → defined s (offset_at s t chore direction) ≡ d → limb_at (start_bytes s l t count v chore direction) i
      ≡ cond d (begun_limb (entry_of s (offset_at s t chore direction - 6) i) (limb_at l i)) (limb_at l i)
  limb_started true is = start_limb s l t count v chore direction ok is lent payload i in-i
  limb_started false is = ap (λ (m : List ℕ). limb_at m i) (undefined_unchanged s l t count v chore direction ok is)

-- an accepted question about a limb
limb-draws : (l : List ℕ) (i : ℕ) → limb.number (drawn_of l i) ≡ 0 → drawn_of l i ≡ draws (limb_at l i)
unfolding drawn_of
limb-draws l i ok = go (eqb (draws_number l i) 0) refl ok
  where
    go : (q : Bool) → eqb (draws_number l i) 0 ≡ q → limb.number (cond q (draws (limb_at l i)) (Err (draws_number l i))) ≡ 0
        → cond q (draws (limb_at l i)) (Err (draws_number l i)) ≡ draws (limb_at l i)
    go true e accepted = refl
    go false e accepted = absurd (false≢true (sym e ∙ eq-eqb (draws_number l i) 0 accepted))

pub reading : Reads
reading =
    record {
      pixels_read = load.pixels_read;
      coded_read = load.coded_read;
      masks_read = load.masks_read;
      load-rest = load.load-rest;
      header_read = λ s out k. header.header_read s k out;
      limbs_started = λ s l t count v chore direction ok payload lent i in-i.
          limb_started s l t count v chore direction ok payload lent i in-i (defined s (offset_at s t chore direction)) refl;
      limbs_ticked = tick-limb;
      limb-draws = limb-draws;
    }

-- ---- what is written

-- an accepted call's block, over the front of its target d, which is e after
module _ (tag : ℕ) (mask : Bool) (w h : ℕ) (rows d e : List ℕ) (len : ℕ) (a : Accepted tag mask w h rows d e len) where
  abbrev block : List ℕ
  block = block_of tag mask (w / 8) (body_for mask (w / 8) h rows)

  block_written : (len ≡ length block) × (e ≡ over block d)
  unfolding over
  block_written = (sym a.size, sym a.target ∙ ap (λ (k : ℕ). block ++ drop k d) (sym a.size))

pub writing : Writes
writing =
    record {
      picture-written = λ w h rows d len answer. block_written smap_tag false w h rows d _ len (smap-accepted w h rows d _ len answer refl);
      plane-written = λ k w h rows d len answer. block_written (plane_tag k) true w h rows d _ len (plane-accepted w h rows d _ len k answer refl).0;
      picture-reads_back = λ w h rows d len bytes answer. smap-call-reads_in w h rows d _ len answer refl bytes;
      plane-reads_back = λ k w h rows d len answer. plane-call-reads_in w h rows d _ len k answer refl;
      room-reads_back = written-room;
      every-picture = every-picture;
    }

-- ---- what is hidden

-- the value of what an answer says
abbrev shown : Bool → ℕ
shown b = cond b 1 0

one_is : (b : Bool) → ◌≡◌ {A = ℕ} (cond b 1 0) 1 → b ≡ true
one_is true e = refl
one_is false e = absurd (omega (arith, e))

module _ (masks : List ℕ) (w h n clip x y : ℕ) (ok : number (hidden_of masks w h n clip x y) ≡ 0) where
  hides_is : hides (hidden_of masks w h n clip x y) ≡ hidden_at masks w h n clip x y
  hides_is =
      let accepted : hidden_number (length masks) w h n x y ≡ 0 = sym (actor.number-answered (hidden_number (length masks) w h n x y)
      (hidden_at masks w h n clip x y)) ∙ ok in
      ap (λ (k : ℕ). hides (answered k (hidden_at masks w h n clip x y))) accepted ∙ actor.hides-answered (hidden_at masks w h n clip x y)

  hidden_exactly : (value (hidden_of masks w h n clip x y) ≡ 1) ↔ Behind masks w h n clip x y
  hidden_exactly =
      let exactly = actor.hidden_exactly masks w h n clip x y in (
        λ is. exactly.0 (sym hides_is ∙ one_is (hides (hidden_of masks w h n clip x y)) is),
        λ behind. ap shown (hides_is ∙ exactly.1 behind),
      )

pub hiding : Hides
hiding =
    record {
      hidden_exactly = hidden_exactly;
      stamped-exactly = λ frame masks picture w h n width height clear x y clip accepted column row p q inside-x inside-y at_x at_y in-x in-y opaque. (
        actor.opaque_hidden frame masks picture w h n width height clear x y clip column row p q inside-x inside-y at_x at_y in-x in-y accepted opaque,
        actor.opaque-shown frame masks picture w h n width height clear x y clip column row p q inside-x inside-y at_x at_y in-x in-y accepted opaque,
      );
    }

-- ---- change requests

pub request2 : Request2
request2 =
    record {
      bits-in_order = reader.always;
      each_byte_once = reader.once;
      holds-25 = reader.at_least_25;
      eight-held = λ body c d f full n few. reader.enough-held body c d f full n (omega (arith, few));
    }

pub request5 : Request5
request5 = record { raw_loaded = load.raw_loaded; raw_strip = strips.raw_strip; run_gives = strips.run_gives; run_cut = strips.run_cut }

pub demand2 : Demand2
demand2 = record { reads = reading; writes = writing; hides = hiding; casts = request7 }
