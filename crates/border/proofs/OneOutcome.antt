-- Each promise admits one outcome, since each is given by what was there at entry. Assumes nothing.
use mathlib.Core.List.{List}
use mathlib.Core.Path.{◌≡◌, sym, ◌∙◌}
use Prim.Native.Nat.{ℕ}
use Rattle.sm3.specs.declared.Sm3.{Sm3}
use Rattle.border.specs.Promise.{Hashed, Maced, SealedFor, OpenedFor, EncipheredFor, DecipheredFor, MasterSecretFor, KeyBlockFor, FinishedFor}
use Rattle.border.specs.Promise.{KeyHalvesFor, StartedFor, TakenFor, DigestedFor}

-- `noustrel_sm3`
pub Hashed-one_outcome : {message out : List ℕ} {a b : ℕ} {x y : List ℕ}
    → Hashed message out a x → Hashed message out b y → (a ≡ b) × (x ≡ y)
Hashed-one_outcome p q = (p.result ∙ sym q.result, p.output ∙ sym q.output)

-- `noustrel_hmac_sm3`
pub Maced-one_outcome : {key message out : List ℕ} {a b : ℕ} {x y : List ℕ}
    → Maced key message out a x → Maced key message out b y → (a ≡ b) × (x ≡ y)
Maced-one_outcome p q = (p.result ∙ sym q.result, p.output ∙ sym q.output)

-- `noustrel_seal`
pub SealedFor-one_outcome : {mac enc : List ℕ} {seq type version : ℕ} {iv text out : List ℕ} {a b : ℕ} {x y : List ℕ} {l k : ℕ}
    → SealedFor mac enc seq type version iv text out a x l → SealedFor mac enc seq type version iv text out b y k
    → (a ≡ b) × (x ≡ y) × (l ≡ k)
SealedFor-one_outcome p q = (p.result ∙ sym q.result, p.output ∙ sym q.output, p.reported ∙ sym q.reported)

-- `noustrel_open`
pub OpenedFor-one_outcome : {mac enc : List ℕ} {seq type version : ℕ} {r out : List ℕ} {a b : ℕ} {x y : List ℕ} {l k m n : ℕ}
    → OpenedFor mac enc seq type version r out a x l m → OpenedFor mac enc seq type version r out b y k n
    → (a ≡ b) × (x ≡ y) × (l ≡ k) × (m ≡ n)
OpenedFor-one_outcome p q =
    (p.result ∙ sym q.result, p.output ∙ sym q.output, p.reported ∙ sym q.reported, p.counted ∙ sym q.counted)

-- `noustrel_sm4_encrypt_block`
pub EncipheredFor-one_outcome : {key block out : List ℕ} {a b : ℕ} {x y : List ℕ}
    → EncipheredFor key block out a x → EncipheredFor key block out b y → (a ≡ b) × (x ≡ y)
EncipheredFor-one_outcome p q = (p.result ∙ sym q.result, p.output ∙ sym q.output)

-- `noustrel_sm4_decrypt_block`
pub DecipheredFor-one_outcome : {key block out : List ℕ} {a b : ℕ} {x y : List ℕ}
    → DecipheredFor key block out a x → DecipheredFor key block out b y → (a ≡ b) × (x ≡ y)
DecipheredFor-one_outcome p q = (p.result ∙ sym q.result, p.output ∙ sym q.output)

-- `noustrel_master_secret`
pub MasterSecretFor-one_outcome : {preMaster client server out : List ℕ} {a b : ℕ} {x y : List ℕ}
    → MasterSecretFor preMaster client server out a x → MasterSecretFor preMaster client server out b y → (a ≡ b) × (x ≡ y)
MasterSecretFor-one_outcome p q = (p.result ∙ sym q.result, p.output ∙ sym q.output)

-- `noustrel_key_block`
pub KeyBlockFor-one_outcome : {master client server out : List ℕ} {a b : ℕ} {x y : List ℕ}
    → KeyBlockFor master client server out a x → KeyBlockFor master client server out b y → (a ≡ b) × (x ≡ y)
KeyBlockFor-one_outcome p q = (p.result ∙ sym q.result, p.output ∙ sym q.output)

-- `noustrel_key_halves`
pub KeyHalvesFor-one_outcome : {block cm sm ce se : List ℕ} {a b : ℕ} {w x y z w' x' y' z' : List ℕ}
    → KeyHalvesFor block cm sm ce se a w x y z → KeyHalvesFor block cm sm ce se b w' x' y' z'
    → (a ≡ b) × (w ≡ w') × (x ≡ x') × (y ≡ y') × (z ≡ z')
KeyHalvesFor-one_outcome p q = (
  p.result ∙ sym q.result,
  p.client-mac ∙ sym q.client-mac,
  p.server-mac ∙ sym q.server-mac,
  p.client_enc ∙ sym q.client_enc,
  p.server_enc ∙ sym q.server_enc,
)

-- `noustrel_finished`
pub FinishedFor-one_outcome : {master : List ℕ} {role : ℕ} {transcript out : List ℕ} {a b : ℕ} {x y : List ℕ}
    → FinishedFor master role transcript out a x → FinishedFor master role transcript out b y → (a ≡ b) × (x ≡ y)
FinishedFor-one_outcome p q = (p.result ∙ sym q.result, p.output ∙ sym q.output)

-- `noustrel_sm3_start`
pub StartedFor-one_outcome : {h₁ h₂ : Sm3} → StartedFor h₁ → StartedFor h₂ → h₁ ≡ h₂
StartedFor-one_outcome p q = p.state ∙ sym q.state

-- `noustrel_sm3_update`
pub TakenFor-one_outcome : {h : Sm3} {part : List ℕ} {a b : ℕ} {h₁ h₂ : Sm3}
    → TakenFor h part a h₁ → TakenFor h part b h₂ → (a ≡ b) × (h₁ ≡ h₂)
TakenFor-one_outcome p q = (p.result ∙ sym q.result, p.state ∙ sym q.state)

-- `noustrel_sm3_finish`
pub DigestedFor-one_outcome : {h : Sm3} {digest : List ℕ} {a b : ℕ} {x y : List ℕ}
    → DigestedFor h digest a x → DigestedFor h digest b y → (a ≡ b) × (x ≡ y)
DigestedFor-one_outcome p q = (p.result ∙ sym q.result, p.output ∙ sym q.output)
