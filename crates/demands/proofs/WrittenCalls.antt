-- What accepted calls of the writer leave, as blocks of one room: the background, and planes 1 to n.
use Rattle.std.proofs.Common.{◌≡◌, refl, sym, ap, ◌∙◌, subst, true, false, List, ◌++◌, ℕ, suc, ◌+◌, ◌*◌, ◌/◌, ◌≤◌, ◌<◌, mul_comm, arith, length, Ok}
use Rattle.strip_writer.proofs.PixelLaws.{Bytes}
use Rattle.block_writer.specs.Block.{body_for, smap_tag, plane_tag, smap_block, plane_block}
use Rattle.block_writer.specs.Call.{smap_outcome, plane_outcome, answer_of, target_after}
use Rattle.block_writer.specs.Reads.{SmapReads, PlaneReads}
use Rattle.block_writer.proofs.CallLaws.{Sizes, length-block}
use Rattle.block_writer.proofs.BackLaws.{size_few, length-smap}
use Rattle.block_writer.proofs.ReadBack.{Accepted, front, smap-accepted, smap-call-reads_in, smap-few, plane-accepted, plane-call-reads_in, plane-short, smap-reads_in, plane-reads_in}
use Rattle.demands.specs.Written.{smap_written, plane_written}

-- the blocks of a picture and its planes as the writer leaves them: what they are, how long, and that they read anywhere
pub record Written (w h n : ℕ) (rows : List ℕ) (planes : ℕ → List ℕ) (smap : List ℕ) (blocks : ℕ → List ℕ) : Type 0 where
  pub allowed : Sizes w h
  pub some : w * h ≤ length rows
  pub some_rows : (k : ℕ) → k < n → w / 8 * h ≤ length (planes (suc k))
  pub smap_is : smap ≡ smap_block (w / 8) h rows
  pub plane_is : (k : ℕ) → k < n → blocks (suc k) ≡ plane_block (suc k) (w / 8) h (planes (suc k))
  pub smap-small : length smap ≤ 262664
  pub plane-small : (k : ℕ) → k < n → length (blocks (suc k)) ≤ 65536
  pub smap-reads : (before after : List ℕ) → SmapReads (w / 8) h rows (before ++ (smap ++ after)) (length before) (length before + length smap)
  pub plane-reads : (k : ℕ) → k < n → (before after : List ℕ)
      → PlaneReads (suc k) (w / 8) h (planes (suc k)) (before ++ (blocks (suc k) ++ after)) (length before) (length before + length (blocks (suc k)))

-- every picture and all planes of the allowed sizes have such blocks
pub every : (w h n : ℕ) (rows : List ℕ) (planes : ℕ → List ℕ) → Sizes w h → n ≤ 4 → Bytes rows → w * h ≤ length rows
    → ((k : ℕ) → k < n → w / 8 * h ≤ length (planes (suc k)))
    → Written w h n rows planes (smap_block (w / 8) h rows) (λ k. plane_block k (w / 8) h (planes k))
every w h n rows planes allowed few bytes some some_rows =
    let strips : w / 8 ≤ 128 = omega (arith, allowed.narrow) in
    record {
      allowed = allowed;
      some = some;
      some_rows = some_rows;
      smap_is = refl;
      plane_is = λ k lt. refl;
      smap-small = length-smap (w / 8) h rows allowed.one allowed.high strips;
      plane-small = λ k lt.
          omega (
            arith,
            length-block (plane_tag (suc k)) true (w / 8) (body_for true (w / 8) h (planes (suc k))),
            size_few true (w / 8) h (planes (suc k)) allowed.one allowed.high strips,
          );
      smap-reads = smap-reads_in (w / 8) h rows strips allowed.one allowed.high bytes;
      plane-reads = λ k lt. plane-reads_in (w / 8) h (planes (suc k)) strips allowed.one allowed.high (suc k) (omega arith);
    }

-- ---- an accepted call

module _ (w h : ℕ) (rows d : List ℕ) (len : ℕ) (answer : Ok len ≡ answer_of (smap_outcome w h rows (length d))) where
  abbrev smap : List ℕ
  smap = smap_written w h rows d len

  abbrev smap-call : Accepted smap_tag false w h rows d (target_after (smap_outcome w h rows (length d)) d) len
  smap-call = smap-accepted w h rows d (target_after (smap_outcome w h rows (length d)) d) len answer refl

  smap_is : smap ≡ smap_block (w / 8) h rows
  smap_is = front smap_tag false w h rows d (target_after (smap_outcome w h rows (length d)) d) len smap-call

  smap-long : length smap ≡ len
  smap-long = ap length smap_is ∙ smap-call.size

  smap-enough : w * h ≤ length rows
  smap-enough =
      let wide : 8 * (w / 8) ≡ w = omega (arith, smap-call.allowed.even) in
      omega (arith, mul_comm w h, smap-call.enough, ap (λ (k : ℕ). h * k) wide)

  smap_read : Bytes rows → (before after : List ℕ)
      → SmapReads (w / 8) h rows (before ++ (smap ++ after)) (length before) (length before + length smap)
  smap_read bytes before after =
      subst (λ (z : ℕ). SmapReads (w / 8) h rows (before ++ (smap ++ after)) (length before) (length before + z)) (sym smap-long)
      (smap-call-reads_in w h rows d (target_after (smap_outcome w h rows (length d)) d) len answer refl bytes before after)

  smap-most : length smap ≤ 262664
  smap-most = omega (arith, smap-long, smap-few w h rows d (target_after (smap_outcome w h rows (length d)) d) len answer refl)

module _ (k w h : ℕ) (rows d : List ℕ) (len : ℕ) (answer : Ok len ≡ answer_of (plane_outcome k w h rows (length d))) where
  abbrev plane : List ℕ
  plane = plane_written k w h rows d len

  abbrev plane-call : Accepted (plane_tag k) true w h rows d (target_after (plane_outcome k w h rows (length d)) d) len
  plane-call = (plane-accepted w h rows d (target_after (plane_outcome k w h rows (length d)) d) len k answer refl).0

  plane_is : plane ≡ plane_block k (w / 8) h rows
  plane_is = front (plane_tag k) true w h rows d (target_after (plane_outcome k w h rows (length d)) d) len plane-call

  plane-long : length plane ≡ len
  plane-long = ap length plane_is ∙ plane-call.size

  plane-enough : w / 8 * h ≤ length rows
  plane-enough = omega (arith, mul_comm (w / 8) h, plane-call.enough)

  plane_read : (before after : List ℕ) → PlaneReads k (w / 8) h rows (before ++ (plane ++ after)) (length before) (length before + length plane)
  plane_read before after =
      subst (λ (z : ℕ). PlaneReads k (w / 8) h rows (before ++ (plane ++ after)) (length before) (length before + z)) (sym plane-long)
      (plane-call-reads_in w h rows d (target_after (plane_outcome k w h rows (length d)) d) len k answer refl before after)

  plane-most : length plane ≤ 65536
  plane-most = omega (arith, plane-long, plane-short w h rows d (target_after (plane_outcome k w h rows (length d)) d) len k answer refl)

-- both together
module _ (w h n : ℕ) (rows : List ℕ) (planes : ℕ → List ℕ) (target : List ℕ) (targets : ℕ → List ℕ) (len : ℕ) (lens : ℕ → ℕ)
    (answer : Ok len ≡ answer_of (smap_outcome w h rows (length target)))
    (answers : (k : ℕ) → 1 ≤ k → k ≤ n → Ok (lens k) ≡ answer_of (plane_outcome k w h (planes k) (length (targets k)))) where
  each : (k : ℕ) → k < n → Ok (lens (suc k)) ≡ answer_of (plane_outcome (suc k) w h (planes (suc k)) (length (targets (suc k))))
  each k lt = answers (suc k) (omega arith) lt

  pub written : Bytes rows
      → Written w h n rows planes (smap_written w h rows target len) (λ k. plane_written k w h (planes k) (targets k) (lens k))
  written bytes =
      record {
        allowed = (smap-call w h rows target len answer).allowed;
        some = smap-enough w h rows target len answer;
        some_rows = λ k lt. plane-enough (suc k) w h (planes (suc k)) (targets (suc k)) (lens (suc k)) (each k lt);
        smap_is = smap_is w h rows target len answer;
        plane_is = λ k lt. plane_is (suc k) w h (planes (suc k)) (targets (suc k)) (lens (suc k)) (each k lt);
        smap-small = smap-most w h rows target len answer;
        plane-small = λ k lt. plane-most (suc k) w h (planes (suc k)) (targets (suc k)) (lens (suc k)) (each k lt);
        smap-reads = smap_read w h rows target len answer bytes;
        plane-reads = λ k lt. plane_read (suc k) w h (planes (suc k)) (targets (suc k)) (lens (suc k)) (each k lt);
      }
