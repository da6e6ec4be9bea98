-- The first fragment with a name, and what is found by the name in the table.
use Rattle.std.proofs.Common.{◌≡◌, ◌∙◌, ℕ, Bool, true, false, List, [], ◌∷◌, ◌++◌, Option, None, Some, refl, ap, sym}
use Rattle.std.specs.Prelude.{pos, Result, Ok, Err, ◌&&◌, ◌==◌, cond, not}
use Rattle.std.specs.Option.{option_map_or, option_or}
use Rattle.std.specs.Str.{bytes_eq}
use Rattle.mac_forks.specs.MacFile.{MacFileIs, mac_file_of}
use Rattle.mac_forks.specs.Parts.{Lying}
use Rattle.mac_forks.specs.declared.fault.ForkFault.{ForkFault}
use Rattle.mac_resources.specs.Fork.{ForkIs}
use Rattle.mac_resources.specs.Resources.{resource_with}
use Rattle.cfm_members.specs.Forks.{data_fork_of, resource_fork_of}
use Rattle.cfm_members.specs.Fragments.{and_then, container_in_pair, first_named, fork_bytes, has_name, lying_in, named_beside, named_by, named_in, named_in_forks, named_in_pair, resource_bytes, resources_of, table_in_file, table_in_fork, table_read, table_with}
use Rattle.cfm_members.specs.Members.{MemberIs, TableIs, all_members, locator_of, table_of}
use Rattle.cfm_members.specs.declared.fault.MemberFault.{MemberFault}
use Rattle.cfm_members.specs.declared.member_lookup_fault.MemberLookupFault.{MemberLookupFault}
use Rattle.cfm_members.specs.declared.member_lookup_fault.MemberLookupFault.TheVariants.{Fork, Resource, Member, NoContainer}
use Rattle.mac_fragments.specs.Extracted.{IsFirst, first_by, goes_by}
use Rattle.mac_fragments.specs.Fragments.{FragmentIs, MemberForksAre, all_listed, and_found, container_of_member, data_fork_in, fork_in_file, fork_with, fragment_here, fragments_beside, fragments_by, fragments_with, listed, member_fragments, read_fork, some_of, with_container, with_name}

-- a first fragment stays the first
first_after : (b : Bool) (f g : FragmentIs) (here after : Option FragmentIs) → (here ≡ Some f → after ≡ Some f) → cond b (Some g) here ≡ Some f → cond b (Some g) after ≡ Some f
first_after true f g here after later is = is
first_after false f g here after later is = later is

first_by-append : (name : List ℕ) (found more : List FragmentIs) (f : FragmentIs) → first_by name found ≡ Some f → first_by name (found ++ more) ≡ Some f
first_by-append name [] more f is = absurd (cc)
first_by-append name (g ∷ found) more f is =
    first_after (goes_by name g) f g (first_by name found) (first_by name (found ++ more)) (first_by-append name found more f) is

first_by-found : (name : List ℕ) (found : List FragmentIs) (here : Option FragmentIs) (f : FragmentIs) → first_by name found ≡ Some f → first_by name (and_found found here) ≡ Some f
first_by-found name found None f is = is
first_by-found name found (Some g) f is = first_by-append name found (g ∷ []) f is

-- what comes after fragments of other names is first
none_after : (b : Bool) (g : FragmentIs) (here after : Option FragmentIs) (wanted : Option FragmentIs) → (here ≡ None → after ≡ wanted) → cond b (Some g) here ≡ None → cond b (Some g) after ≡ wanted
none_after true g here after wanted later is = absurd (cc)
none_after false g here after wanted later is = later is

first_by-last : (name : List ℕ) (found more : List FragmentIs) → first_by name found ≡ None → first_by name (found ++ more) ≡ first_by name more
first_by-last name [] more is = refl
first_by-last name (g ∷ found) more is =
    none_after (goes_by name g) g (first_by name found) (first_by name (found ++ more)) (first_by name more) (first_by-last name found more) is

-- a fragment that was found stays the first with its name, whatever rows follow
kept-then : (forks : MemberForksAre) (name : List ℕ) (found : List FragmentIs) (rows : List (Result MemberIs MemberFault)) (fs : List FragmentIs) (f : FragmentIs) (here : Result (Option FragmentIs) MemberLookupFault)
    → ((next : List FragmentIs) → listed forks next rows ≡ Ok fs → first_by name next ≡ Some f → first_by name fs ≡ Some f)
    → and_then here (λ h. listed forks (and_found found h) rows) ≡ Ok fs → first_by name found ≡ Some f → first_by name fs ≡ Some f
kept-then forks name found rows fs f (Ok h) again is first = again (and_found found h) is (first_by-found name found h f first)
kept-then forks name found rows fs f (Err fault) again is first = absurd (cc)

listed-keeps : (forks : MemberForksAre) (name : List ℕ) (found : List FragmentIs) (rows : List (Result MemberIs MemberFault)) (fs : List FragmentIs) (f : FragmentIs)
    → listed forks found rows ≡ Ok fs → first_by name found ≡ Some f → first_by name fs ≡ Some f
listed-keeps forks name found [] fs f is first = (let e : found ≡ fs = cc in rw (← e) first)
listed-keeps forks name found (row ∷ rows) fs f is first =
    kept-then forks name found rows fs f (fragment_here forks row) (λ next. listed-keeps forks name next rows fs f) is first

-- the container of the first member with a name
abbrev found_in : MemberForksAre → Option MemberIs → Result (List ℕ) MemberLookupFault
found_in forks first = and_then (option_map_or Ok first (Err NoContainer)) (container_of_member forks)

-- a member that has the name: what is found is its container, which is the first fragment of the name if it is one
met : (forks : MemberForksAre) (name own : List ℕ) (found : List FragmentIs) (rows : List (Result MemberIs MemberFault)) (fs : List FragmentIs) (m : MemberIs) (r : Result (List ℕ) MemberLookupFault)
    → bytes_eq own name ≡ true → container_of_member forks m ≡ r → first_by name found ≡ None
    → and_then (with_container m own r) (λ h. listed forks (and_found found h) rows) ≡ Ok fs → IsFirst (container_of_member forks m) (first_by name fs)
met forks name own found rows fs m (Ok bytes) same is none lists =
    let f : FragmentIs = record { name = Some own; usage = m.header.usage_code; bytes = bytes } in
    let here : first_by name (found ++ f ∷ []) ≡ Some f = first_by-last name found (f ∷ []) none ∙ ap (λ b. cond b (Some f) None) same in
    rw (is, listed-keeps forks name (found ++ f ∷ []) rows fs f lists here) refl
met forks name own found rows fs m (Err NoContainer) same is none lists = rw (is) tt
met forks name own found rows fs m (Err (Fork fault)) same is none lists = absurd (cc)
met forks name own found rows fs m (Err (Resource fault)) same is none lists = absurd (cc)
met forks name own found rows fs m (Err (Member fault)) same is none lists = absurd (cc)

-- a member that hasn't the name: the fragments so far have none with it either
passed : (forks : MemberForksAre) (name own : List ℕ) (found : List FragmentIs) (rows : List (Result MemberIs MemberFault)) (fs : List FragmentIs) (m : MemberIs) (r : Result (List ℕ) MemberLookupFault)
    → bytes_eq own name ≡ false → first_by name found ≡ None
    → ((next : List FragmentIs) → listed forks next rows ≡ Ok fs → first_by name next ≡ None → IsFirst (found_in forks (first_named name rows)) (first_by name fs))
    → and_then (with_container m own r) (λ h. listed forks (and_found found h) rows) ≡ Ok fs → IsFirst (found_in forks (first_named name rows)) (first_by name fs)
passed forks name own found rows fs m (Ok bytes) other none again lists =
    let f : FragmentIs = record { name = Some own; usage = m.header.usage_code; bytes = bytes } in
    again (found ++ f ∷ []) lists (first_by-last name found (f ∷ []) none ∙ ap (λ b. cond b (Some f) None) other)
passed forks name own found rows fs m (Err NoContainer) other none again lists = again found lists none
passed forks name own found rows fs m (Err (Fork fault)) other none again lists = absurd (cc)
passed forks name own found rows fs m (Err (Resource fault)) other none again lists = absurd (cc)
passed forks name own found rows fs m (Err (Member fault)) other none again lists = absurd (cc)

-- a member for PowerPC with a name of its own
named-or-not : (forks : MemberForksAre) (name own : List ℕ) (found : List FragmentIs) (rows : List (Result MemberIs MemberFault)) (fs : List FragmentIs) (m : MemberIs) (b : Bool)
    → bytes_eq own name ≡ b → first_by name found ≡ None
    → ((next : List FragmentIs) → listed forks next rows ≡ Ok fs → first_by name next ≡ None → IsFirst (found_in forks (first_named name rows)) (first_by name fs))
    → and_then (with_container m own (container_of_member forks m)) (λ h. listed forks (and_found found h) rows) ≡ Ok fs
    → IsFirst (found_in forks (option_or (cond (b && true) (Some m) None) (first_named name rows))) (first_by name fs)
named-or-not forks name own found rows fs m true same none again lists = met forks name own found rows fs m (container_of_member forks m) same refl none lists
named-or-not forks name own found rows fs m false other none again lists = passed forks name own found rows fs m (container_of_member forks m) other none again lists

-- a member
false_and : (b : Bool) → (b && false) ≡ false
false_and true = refl
false_and false = refl

member-here : (forks : MemberForksAre) (name : List ℕ) (found : List FragmentIs) (rows : List (Result MemberIs MemberFault)) (fs : List FragmentIs) (m : MemberIs) (is68 : Bool) (own : Result (List ℕ) MemberFault)
    → first_by name found ≡ None
    → ((next : List FragmentIs) → listed forks next rows ≡ Ok fs → first_by name next ≡ None → IsFirst (found_in forks (first_named name rows)) (first_by name fs))
    → and_then (cond is68 (Ok None) (with_name forks m own)) (λ h. listed forks (and_found found h) rows) ≡ Ok fs
    → IsFirst (found_in forks (option_or (cond (has_name name own && not is68) (Some m) None) (first_named name rows))) (first_by name fs)
member-here forks name found rows fs m true own none again lists = rw (false_and (has_name name own)) (again found lists none)
member-here forks name found rows fs m false (Ok own) none again lists = named-or-not forks name own found rows fs m (bytes_eq own name) refl none again lists
member-here forks name found rows fs m false (Err fault) none again lists = absurd (cc)

-- what is found by a name in the rows is the first fragment with the name
listed-first : (forks : MemberForksAre) (name : List ℕ) (found : List FragmentIs) (rows : List (Result MemberIs MemberFault)) (fs : List FragmentIs)
    → listed forks found rows ≡ Ok fs → first_by name found ≡ None → IsFirst (found_in forks (first_named name rows)) (first_by name fs)
listed-first forks name found [] fs is none = tt
listed-first forks name found (Ok m ∷ rows) fs is none =
    member-here forks name found rows fs m (m.header.architecture == 0x6D36_386B) m.name none (λ next. listed-first forks name next rows fs) is
listed-first forks name found (Err fault ∷ rows) fs is none = absurd (cc)

-- .. in all rows
some-are : (found : Result (List FragmentIs) MemberLookupFault) (fs : List FragmentIs) → and_then found some_of ≡ Ok fs → found ≡ Ok fs
some-are (Ok []) fs is = absurd (cc)
some-are (Ok (f ∷ found)) fs is = is
some-are (Err fault) fs is = absurd (cc)

all-first : (forks : MemberForksAre) (name : List ℕ) (rows : List (Result MemberIs MemberFault)) (fs : List FragmentIs)
    → all_listed forks rows ≡ Ok fs → IsFirst (found_in forks (first_named name rows)) (first_by name fs)
all-first forks name rows fs is = listed-first forks name [] rows fs (some-are (listed forks [] rows) fs is) refl

-- .. in the table that a resource fork has
in-table : (name bytes : List ℕ) (resources : List ℕ) (data_fork : Option (Result Lying ForkFault)) (fork : ForkIs) (fs : List FragmentIs) (table : Result TableIs MemberFault)
    → fragments_by bytes resources data_fork (table_read table) ≡ Ok fs → fork_in_file resources ≡ Ok fork
    → IsFirst (and_then (named_in name table) (λ m. lying_in m data_fork fork (locator_of m.header))) (first_by name fs)
in-table name bytes resources data_fork fork fs (Ok table) is read =
    all-first (record { data_fork = data_fork; resources = fork }) name (all_members table) fs (sym (ap (λ r. member_fragments table data_fork r) read) ∙ is)
in-table name bytes resources data_fork fork fs (Err fault) is read = absurd (cc)

in-resource : (name bytes : List ℕ) (resources : List ℕ) (data_fork : Option (Result Lying ForkFault)) (fork : ForkIs) (fs : List FragmentIs) (table : Result (List ℕ) MemberLookupFault)
    → fragments_by bytes resources data_fork (and_then table (λ t. table_read (table_of t))) ≡ Ok fs → fork_in_file resources ≡ Ok fork
    → IsFirst (and_then table (λ t. and_then (named_in name (table_of t)) (λ m. lying_in m data_fork fork (locator_of m.header)))) (first_by name fs)
in-resource name bytes resources data_fork fork fs (Ok t) is read = in-table name bytes resources data_fork fork fs (table_of t) is read
in-resource name bytes resources data_fork fork fs (Err NoContainer) is read = tt
in-resource name bytes resources data_fork fork fs (Err (Fork fault)) is read = absurd (cc)
in-resource name bytes resources data_fork fork fs (Err (Resource fault)) is read = absurd (cc)
in-resource name bytes resources data_fork fork fs (Err (Member fault)) is read = absurd (cc)

in-fork : (name bytes : List ℕ) (resources : List ℕ) (data_fork : Option (Result Lying ForkFault)) (fs : List FragmentIs) (fork : Result ForkIs MemberLookupFault)
    → fragments_by bytes resources data_fork (and_then fork table_in_fork) ≡ Ok fs → fork_in_file resources ≡ fork
    → IsFirst (and_then fork (named_by name data_fork)) (first_by name fs)
in-fork name bytes resources data_fork fs (Ok fork) is read =
    in-resource name bytes resources data_fork fork fs (resource_bytes (resource_with fork 0x6366_7267 (pos 0))) is read
in-fork name bytes resources data_fork fs (Err NoContainer) is read = tt
in-fork name bytes resources data_fork fs (Err (Fork fault)) is read = absurd (cc)
in-fork name bytes resources data_fork fs (Err (Resource fault)) is read = absurd (cc)
in-fork name bytes resources data_fork fs (Err (Member fault)) is read = absurd (cc)

in-bytes : (name bytes : List ℕ) (resources : List ℕ) (data_fork : Option (Result Lying ForkFault)) (fs : List FragmentIs) (fork : Result (List ℕ) MemberLookupFault)
    → fragments_by bytes resources data_fork (and_then fork (λ b. and_then (resources_of b) table_in_fork)) ≡ Ok fs → fork_in_file resources ≡ read_fork fork
    → IsFirst (and_then fork (named_in_forks name data_fork)) (first_by name fs)
unfolding named_in_forks
in-bytes name bytes resources data_fork fs (Ok b) is read = in-fork name bytes resources data_fork fs (resources_of b) is read
in-bytes name bytes resources data_fork fs (Err NoContainer) is read = tt
in-bytes name bytes resources data_fork fs (Err (Fork fault)) is read = absurd (cc)
in-bytes name bytes resources data_fork fs (Err (Resource fault)) is read = absurd (cc)
in-bytes name bytes resources data_fork fs (Err (Member fault)) is read = absurd (cc)

-- .. in a file with the resource fork
in-file : (name bytes : List ℕ) (resources : List ℕ) (data_fork : Option (Result Lying ForkFault)) (fs : List FragmentIs) (file : Result MacFileIs ForkFault)
    → fragments_by bytes resources data_fork (table_with resources file) ≡ Ok fs → fork_in_file resources ≡ fork_with resources file
    → IsFirst (named_beside name data_fork resources file) (first_by name fs)
in-file name bytes resources data_fork fs (Ok file) is read = in-bytes name bytes resources data_fork fs (fork_bytes (resource_fork_of resources file)) is read
in-file name bytes resources data_fork fs (Err fault) is read = absurd (cc)

in-pair : (name bytes : List ℕ) (resources : List ℕ) (fs : List FragmentIs) (file : Result MacFileIs ForkFault)
    → fragments_with bytes resources (data_fork_in bytes file) ≡ Ok fs → IsFirst (named_in_pair name bytes file resources) (first_by name fs)
unfolding table_in_file fork_in_file
in-pair name bytes resources fs (Ok file) is = in-file name bytes resources (data_fork_of bytes file) fs (mac_file_of resources) is refl
in-pair name bytes resources fs (Err fault) is = absurd (cc)

pub beside-first : (bytes resources name : List ℕ) (fs : List FragmentIs) → fragments_beside bytes resources ≡ Ok fs → IsFirst (container_in_pair bytes resources name) (first_by name fs)
unfolding fragments_beside container_in_pair
beside-first bytes resources name fs is = in-pair name bytes resources fs (mac_file_of bytes) is
