-- The exported functions: what `noustrel_seal` and `noustrel_open` promise, with keys and IV of the right sizes, is what our sealer and
-- our opener do; so what is demanded of those holds of every outcome that the promises admit. Assumes nothing.
use Rattle.std.specs.Prelude.{List, ◌↔◌, ◌≡◌, ℕ, suc, ◌-◌, ◌≤◌, length, take}
use Rattle.answers.specs.Answers.{Done, WrongSize}
use Rattle.words.specs.Bytes.{Bytes, be}
use Rattle.key_schedule.specs.declared.TlcpRole.TheVariants.{Client, Server}
use Rattle.record.specs.Sealing.{Sealed}
use Rattle.record.specs.Limits.{iv_len, mac_len}
use Rattle.record.specs.Standard.{sealed_length}
use Rattle.sizes.specs.Sizes.{total_steps}
use Rattle.opening.specs.declared.Opened.{Opened}
use Rattle.border.specs.Border.{keys_from, given_from, role_of}
use Rattle.border.specs.Promise.{SealedFor, OpenedFor}
use Rattle.demands.specs.Checks.{Sealable, Openable}
use Rattle.demands.specs.Openers.{our_sealer, our_opener, laid, Exact, BothRefuse}

-- a MAC key and a cipher key of the right sizes
pub record KeySizes (mac enc : List ℕ) : Type 0 where
  pub mac-size : length mac ≡ mac_len
  pub enc_size : length enc ≡ 16

-- what is reported, and what the output then holds
abbrev pub sealed_to : ℕ → ℕ → List ℕ → Sealed × List ℕ
sealed_to answer len out = (record { answer = answer; length = len }, out)

abbrev pub opened_to : ℕ → ℕ → ℕ → List ℕ → Opened × List ℕ
opened_to answer len count out = (record { answer = answer; length = len; count = count }, out)

-- `noustrel_seal` is our sealer
unfoldable pub ExportedSeal : Type 0
ExportedSeal =
    (mac enc : List ℕ) (seq type version : ℕ) (iv text out : List ℕ) (a : ℕ) (x : List ℕ) (l : ℕ)
    → KeySizes mac enc → length iv ≡ iv_len
    → SealedFor mac enc seq type version iv text out a x l
    ↔ (sealed_to a l x ≡ our_sealer (keys_from mac enc) seq type (be 2 version) iv text out)

-- `noustrel_open` is our opener
unfoldable pub ExportedOpen : Type 0
ExportedOpen =
    (mac enc : List ℕ) (seq type version : ℕ) (r out : List ℕ) (a : ℕ) (x : List ℕ) (l c : ℕ)
    → KeySizes mac enc
    → OpenedFor mac enc seq type version r out a x l c ↔ (opened_to a l c x ≡ our_opener (given_from mac enc seq type version r) out)

-- ROUND TRIP of the exported functions
unfoldable pub ExportedRoundTrip : Type 0
ExportedRoundTrip =
    (mac enc : List ℕ) (seq type version : ℕ) (iv text out o : List ℕ) (a b : ℕ) (x y : List ℕ) (l k c : ℕ)
    → KeySizes mac enc → length iv ≡ iv_len → Bytes iv → Bytes text
    → Sealable (length text) (length out) → sealed_length (length text) - iv_len ≤ length o
    → SealedFor mac enc seq type version iv text out a x l
    → OpenedFor mac enc seq type version (take l x) o b y k c
    → let n = sealed_length (length text) - iv_len in
    (a ≡ Done) × (opened_to b k c y ≡ opened_to Done (length text) (total_steps n) (laid text n o))

-- EXACT ACCEPTANCE by the exported function
unfoldable pub ExportedAcceptance : Type 0
ExportedAcceptance =
    (mac enc : List ℕ) (seq type version : ℕ) (r out : List ℕ) (a : ℕ) (x : List ℕ) (l c : ℕ)
    → KeySizes mac enc → Bytes r → Openable (length r) (length out)
    → OpenedFor mac enc seq type version r out a x l c
    → Exact (given_from mac enc seq type version r) out (opened_to a l c x)

-- CALLS LOOK ALIKE, of the exported function: the count is T, and two refusals are equal
unfoldable pub ExportedCount : Type 0
ExportedCount =
    (mac enc : List ℕ) (seq type version : ℕ) (r out : List ℕ) (a : ℕ) (x : List ℕ) (l c : ℕ)
    → KeySizes mac enc → Openable (length r) (length out)
    → OpenedFor mac enc seq type version r out a x l c → c ≡ total_steps (length r - iv_len)

unfoldable pub ExportedCallsAlike : Type 0
ExportedCallsAlike =
    (mac enc : List ℕ) (seq type version : ℕ) (r out : List ℕ) (a : ℕ) (x : List ℕ) (l c : ℕ)
    (mac' enc' : List ℕ) (seq' type' version' : ℕ) (r' out' : List ℕ) (a' : ℕ) (x' : List ℕ) (l' c' : ℕ)
    → KeySizes mac enc → KeySizes mac' enc' → length r ≡ length r'
    → Openable (length r) (length out) → Openable (length r') (length out')
    → OpenedFor mac enc seq type version r out a x l c → OpenedFor mac' enc' seq' type' version' r' out' a' x' l' c'
    → BothRefuse (given_from mac enc seq type version r) (given_from mac' enc' seq' type' version' r') out out'
    (opened_to a l c x) (opened_to a' l' c' x')

-- ROLES. 0 is the client, any other number the server.
unfoldable pub ExportedRoles : Type 0
ExportedRoles = (role_of 0 ≡ Client) × ((n : ℕ) → role_of (suc n) ≡ Server)

-- WRONG SIZES come before all else: 9, length and count 0, the output as found
unfoldable pub SealWrongSize : Type 0
SealWrongSize =
    (mac enc : List ℕ) (seq type version : ℕ) (iv text out : List ℕ) (a : ℕ) (x : List ℕ) (l : ℕ)
    → (KeySizes mac enc × (length iv ≡ iv_len) → ⊥)
    → SealedFor mac enc seq type version iv text out a x l ↔ (sealed_to a l x ≡ sealed_to WrongSize 0 out)

unfoldable pub OpenWrongSize : Type 0
OpenWrongSize =
    (mac enc : List ℕ) (seq type version : ℕ) (r out : List ℕ) (a : ℕ) (x : List ℕ) (l c : ℕ)
    → (KeySizes mac enc → ⊥)
    → OpenedFor mac enc seq type version r out a x l c ↔ (opened_to a l c x ≡ opened_to WrongSize 0 0 out)
