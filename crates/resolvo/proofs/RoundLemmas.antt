-- The invariants before each round of searching and reading, and after it.
use Rattle.std.proofs.Common.{◌≡◌, ℕ, ◌+◌, ◌<◌, ◌≤◌, List, [], true, ◌++◌, length, length-append, get_or, take, append-nil, arith, refl, sym, ap, ◌∙◌, subst}
use Rattle.std.proofs.Common.{⊎_elim, Contains, All}
use Rattle.std.specs.Prelude.{map}
use Rattle.std.specs.Option.{option_map}
use Rattle.std.proofs.Math.Seq.{take-append_seam}
use Rattle.std.proofs.lemmas.Bool.{cases_lt}
use Rattle.std.proofs.lemmas.Option.{slice_get-get_or, slice_get_within}
use Rattle.std.proofs.lemmas.List.Elements.{All-weaker, Contains-get_or}
use Rattle.resolver_clause_store.specs.Caches.{IsTrueCache}
use Rattle.resolver_clause_store.specs.Candidates.{matching}
use Rattle.resolver_clause_store.specs.Formula.{AreBelow}
use Rattle.resolver_clause_store.specs.Lists.{IsWithin, Meets}
use Rattle.resolver_clause_store.specs.TrailView.{KeepsPlaces, length_of, variable_at, variable_count}
use Rattle.resolver_clause_store.specs.Universe.{Universe, Demands}
use Rattle.resolver_clause_store.specs.Variables.{Keeps}
use Rattle.resolver_clause_store.specs.Literals.{Literal}
use Rattle.resolver_clause_store.specs.declared.Cache.{Cache}
use Rattle.resolver_clause_store.specs.declared.Origin.{Origin}
use Rattle.resolver_clause_store.specs.declared.Origin.TheVariants.{Root, Solvable}
use Rattle.resolver_clause_store.specs.declared.RequirementClause.{RequirementClause}
use Rattle.resolver_clause_store.specs.declared.Slot.{Slot}
use Rattle.resolver_clause_store.specs.declared.Trail.{Trail}
use Rattle.resolver_clause_store.proofs.KeptLemmas.{slot_at}
use Rattle.resolver_clause_store.proofs.PlaceLemmas.{Keeps-same}
use Rattle.resolver_clause_store.proofs.SlotLemmas.{slot-within}
use Rattle.resolver_encoding.specs.Atoms.{Atom, atom}
use Rattle.resolver_encoding.specs.Encodings.{Extends, Notes}
use Rattle.resolver_encoding.specs.Notes.{KeepsTrue, cache_in, notes_in}
use Rattle.resolver_encoding.specs.SoFar.{IsReading, IsReadMore, IsReadSoFar, left_count}
use Rattle.resolver_encoding.specs.Trails.{Follows, chosen_in, origin_at, solvables_before}
use Rattle.resolver_encoding.specs.declared.chosen.Chosen.{Chosen}
use Rattle.resolver_encoding.specs.declared.encoding.Encoding.{Encoding}
use Rattle.resolver_encoding.specs.Values.{requirement_numbers}
use Rattle.resolver_encoding.proofs.NumberLemmas.{Extends-numbers}
use Rattle.resolver_encoding.proofs.Bridge.{before-back, stands, true_before}
use Rattle.resolver_encoding.proofs.EncodedLemmas.{encoded_below, requirements_inside}
use Rattle.resolver_encoding.proofs.EncodingLemmas.{Extends-within}
use Rattle.resolver_encoding.proofs.TrailLemmas.{before_extends, follows_still}
use Rattle.resolvo.specs.ClauseSearches.{IsConsistent, IsLoaded, KeepsLoaded, KeepsBookmark, KeepsTurn, clause_count_of, kept_of, learnt_count_of, numbers_of}
use Rattle.resolvo.specs.ClauseSearches.{trail_of}
use Rattle.resolvo.specs.declared.owners.Owners.{Owners}
use Rattle.resolvo.specs.RoundStates.{AreRounds, HasFollowed, HasLoaded, HasBookmark, IsFollowingFrom, IsFresh, IsSearchOf, IsStill, IsUpToDate, KeepsRead}
use Rattle.resolvo.specs.RoundStates.{AreAtRest, IsRound, KeepsRoundLimits, chosen_of, notes_of}
use Rattle.resolvo.specs.declared.rounds.Round.{Round}
use Rattle.resolvo.specs.declared.rounds.Round.TheVariants.{Last, Fired, Read}
use Rattle.resolvo.specs.declared.clause_search.ClauseSearch.{ClauseSearch}
use Rattle.resolvo.specs.declared.rounds.Rounds.{Rounds}
use Rattle.resolver_clause_store.proofs.ListLemmas.{Contains-at}

-- a trail without variables is empty
empty_trail : (trail : Trail) → variable_count trail ≡ 0 → length_of trail ≡ 0
empty_trail trail none = ⊎_elim
    (λ (some : 0 < length_of trail).
    let w = slot_at trail 0 some in
    let inside : variable_at trail 0 < variable_count trail =
    slot-within _ (variable_at trail 0) w.0.place (ap (option_map (λ (slot : Slot). slot.place)) w.1) in
    absurd (omega (arith, inside, none)))
    (λ (empty : length_of trail ≤ 0). omega (arith, empty))
    (cases_lt 0 (length_of trail))

pub keeps_itself : (trail : Trail) (count : ℕ) → count ≤ length_of trail → KeepsPlaces trail trail count
keeps_itself trail count inside = record { were = inside; are = inside; variables = λ place below. refl; slots = λ variable slot at below. at }

pub Keeps-longer : {X : Type 0} (old new : List X) (x : X) → Keeps old new → length old ≤ length new
Keeps-longer old new x keeps = ⊎_elim
    (λ (less : length new < length old).
    let inside = slice_get_within new (length new) (get_or old (length new) x)
    (keeps.kept (length new) (get_or old (length new) x) (slice_get-get_or old (length new) x less)) in
    absurd (omega (arith, inside)))
    (λ (enough : length old ≤ length new). enough)
    (cases_lt (length new) (length old))

-- each solvable that a trail makes true is registered
pub chosen_known : {N S : Type 0} (origins : List (Origin N S)) (trail : Trail) → variable_count trail ≡ length origins → (set : List S) →
    set ≡ solvables_before origins trail (length_of trail) → All (λ s. Contains origins (Solvable s)) set
chosen_known {N} {S} origins trail size set is = λ k d below.
    let Among : List S → Type 0 = λ list. Contains list (get_or set k d) in
    known (get_or set k d) (subst Among is (Contains-get_or set k d below))
  where
    known : (s : S) → Contains (solvables_before origins trail (length_of trail)) s → Contains origins (Solvable s)
    known s h =
        let w = before-back origins trail size (length_of trail) (atom (Solvable s) true) (true_before origins trail (length_of trail) s h) in
        let x : ℕ = variable_at trail w.0 in
        let p = slot_at trail w.0 w.1 in
        let inside : x < variable_count trail = slot-within _ x p.0.place (ap (option_map (λ (slot : Slot). slot.place)) p.1) in
        let Has : Origin N S → Type 0 = λ o. Contains origins o in
        subst Has (ap (λ (a : Atom N S). a.origin) w.2)
        (Contains-at origins x (origin_at origins x) (stands origins trail size x (omega (arith, inside, size))))

-- notes that are read for a set are read for each part of it
pub so_far_less : {N S : Type 0} (u : Universe N S) (root : Demands) (part set : List S) (notes : Notes N S) → IsWithin part set →
    IsReadSoFar u root set notes → IsReadSoFar u root part notes
so_far_less u root part set notes within h = record {
  half = h.half;
  set_read = λ s inside. h.set_read s (within s inside);
  none = record {
    none = λ e left met. h.none.none e left
        (All-weaker (λ xs. Meets xs part) (λ xs. Meets xs set) (λ xs m.
        record { shared = m.shared; in_first = m.in_first; in_second = within m.shared m.in_second }) (map (matching u) e.disjunct) met);
  };
}

-- all clauses were loaded, and stay loaded while the search runs
pub loaded_all : (table clauses : List (List Literal)) (numbers : List ℕ) (requirements : List RequirementClause) (old mid : ClauseSearch) →
    HasLoaded table numbers old → clauses ≡ table → numbers_of requirements ≡ numbers →
    ((given : List (List Literal)) (requiring : List ℕ) → IsLoaded given requiring old → (more : List (List Literal)) → clauses ≡ given ++ more →
    (more_requiring : List ℕ) → numbers_of requirements ≡ requiring ++ more_requiring → IsLoaded clauses (numbers_of requirements) mid) →
    IsLoaded table numbers mid
loaded_all table clauses numbers requirements old mid l are are_numbers loads =
    let all = loads l.given l.numbers l.loaded l.clauses.more (are ∙ l.clauses.is) l.requiring.more (are_numbers ∙ l.requiring.is) in
    let Loaded : List (List Literal) → List ℕ → Type 0 = λ given requiring. IsLoaded given requiring mid in
    let Given : List (List Literal) → Type 0 = λ given. Loaded given (numbers_of requirements) in
    subst (Loaded table) are_numbers (subst Given are all)

module _ {N S : Type 0} where
  -- the root was read
  pub begun : (u : Universe N S) (root : Demands) (old : Rounds N S) (encoding : Encoding N S) → IsFresh old →
      IsTrueCache u (cache_in encoding) → IsReadSoFar u root [] (notes_in encoding) → AreRounds u (record old { encoding = encoding })
  begun u root old encoding fresh answers read =
      let base : Trail = trail_of old.search in
      let empty : length_of base ≡ 0 = empty_trail base fresh.variables in
      let ReadFor : List S → Type 0 = λ set. IsReadSoFar u root set (notes_in encoding) in
      let FollowsTo : ℕ → Type 0 = λ n. Follows old.chosen (notes_in encoding).origins base n in
      record {
        answers = answers;
        reading = record { root = root; so_far = subst ReadFor (sym fresh.none) read };
        consistent = fresh.consistent;
        loaded = record {
          given = [];
          numbers = [];
          loaded = fresh.loaded;
          clauses = record { more = (notes_in encoding).table; is = refl };
          requiring = record { more = requirement_numbers (notes_in encoding).kinds; is = refl };
        };
        variables = omega (arith, fresh.variables);
        bookmark = record {
          base = base;
          follows = subst FollowsTo (sym empty) (fresh.follows (notes_in encoding).origins base);
          kept = keeps_itself base (kept_of old.search) fresh.consistent.kept;
          known = omega (arith, fresh.variables);
        };
      }

  -- the clauses that the search is given have only variables with an origin
  pub given_below : (u : Universe N S) (set : List S) (notes : Notes N S) (count : ℕ) (table : List (List Literal)) → IsReading u set notes →
      count ≡ length notes.origins → table ≡ notes.table → AreBelow count table
  given_below u set notes count table reading counted are =
      let Below : ℕ → List (List Literal) → Type 0 = λ n list. AreBelow n list in
      let Counted : ℕ → Type 0 = λ n. Below n notes.table in
      subst (Below count) (sym are) (subst Counted (sym counted) (encoded_below u reading.root notes reading.so_far.half.encoding))

  pub given_inside : (u : Universe N S) (set : List S) (notes : Notes N S) (table : List (List Literal)) (requirements : List RequirementClause) →
      IsReading u set notes → table ≡ notes.table → map (λ (r : RequirementClause). r.number) requirements ≡ requirement_numbers notes.kinds →
      All (λ (r : RequirementClause). r.number < length table) requirements
  given_inside u set notes table requirements reading are numbers =
      let Inside : List (List Literal) → Type 0 = λ list. All (λ (r : RequirementClause). r.number < length list) requirements in
      subst Inside (sym are) (requirements_inside u reading.root notes reading.so_far.half.encoding requirements numbers)

  -- the invariant does not depend on the packages of the variables
  pub rounds_owned : (u : Universe N S) (r : Rounds N S) (owners : Owners N) → AreRounds u r → AreRounds u (record r { owners = owners })
  rounds_owned u r owners rounds = assumption

  pub still_owned : (r : Rounds N S) (owners : Owners N) → IsStill r → IsStill (record r { owners = owners })
  still_owned r owners still = assumption

  -- the rounds with a cache that knows more
  abbrev pub knowing : Rounds N S → Cache N S → Rounds N S
  knowing r cache = record r { encoding = record r.encoding { cache = cache } }

  pub room_known : (u : Universe N S) (r : Rounds N S) (cache : Cache N S) → IsTrueCache u cache → KeepsRoundLimits u r (knowing r cache)
  room_known u r cache answers =
      record { variables = refl; kinds = refl; answers = λ _. answers; clauses = refl; learnt = refl }

  pub rest_known : (u : Universe N S) (r : Rounds N S) (cache : Cache N S) → IsTrueCache u cache → AreAtRest u r → AreAtRest u (knowing r cache)
  rest_known u r cache answers rest =
      let it = rest.rounds in
      record {
        rounds = record { answers = answers; reading = it.reading; consistent = it.consistent; loaded = it.loaded; variables = it.variables; bookmark = it.bookmark };
        still = record { held = rest.still.held; bookmarked = rest.still.bookmarked; chosen = rest.still.chosen };
      }

  -- the search has run over all clauses that were read
  pub searched : (u : Universe N S) (old : Rounds N S) (new : ClauseSearch) → AreRounds u old → IsConsistent new →
      IsLoaded (notes_of old).table (requirement_numbers (notes_of old).kinds) new → variable_count (trail_of new) ≡ length (notes_of old).origins →
      KeepsBookmark old.search new → AreRounds u (record old { search = new })
  searched u old new rounds consistent loaded size kept = record {
    answers = rounds.answers;
    reading = rounds.reading;
    consistent = consistent;
    loaded = record {
      given = (notes_of old).table;
      numbers = requirement_numbers (notes_of old).kinds;
      loaded = loaded;
      clauses = record { more = []; is = sym (append-nil (notes_of old).table) };
      requiring =
          record { more = []; is = sym (append-nil (requirement_numbers (notes_of old).kinds)) };
    };
    variables = omega (arith, size);
    bookmark = record {
      base = rounds.bookmark.base;
      follows = rounds.bookmark.follows;
      kept = kept rounds.bookmark.base rounds.bookmark.kept;
      known = rounds.bookmark.known;
    };
  }

  -- the list of chosen solvables was cut and follows the trail again
  record IsCutAgain (old : Rounds N S) (kept : ℕ) (cut new : Chosen S) : Type 0 where
    at_base : Follows cut (notes_of old).origins old.search.trail kept
    inside : IsWithin (chosen_in cut) (chosen_of old)
    follows : Follows new (notes_of old).origins (trail_of old.search) (length_of (trail_of old.search))

  cut_again : (old : Rounds N S) (kept : ℕ) (cut new : Chosen S) → IsUpToDate old → HasBookmark old → kept ≡ kept_of old.search →
      ((origins : List (Origin N S)) (trail : Trail) (count : ℕ) → Follows old.chosen origins trail count → kept ≤ count → Follows cut origins trail kept) →
      ((count : ℕ) → Follows cut (notes_of old).origins (trail_of old.search) count →
      Follows new (notes_of old).origins (trail_of old.search) (length_of (trail_of old.search))) →
      IsCutAgain old kept cut new
  cut_again old kept cut new up bookmark is cuts follows =
      let origins : List (Origin N S) = (notes_of old).origins in
      let trail : Trail = trail_of old.search in
      let places : KeepsPlaces bookmark.base trail kept =
      let Places : ℕ → Type 0 = λ n. KeepsPlaces bookmark.base trail n in subst Places (sym is) bookmark.kept in
      let first : Follows cut origins bookmark.base kept = cuts origins bookmark.base (length_of bookmark.base) bookmark.follows places.were in
      let now : Follows cut origins trail kept = follows_still origins origins bookmark.base trail kept (Keeps-same origins) bookmark.known places cut first in
      let Within : List S → Type 0 = λ list. IsWithin list (chosen_of old) in
      let WithinAll : List S → Type 0 = λ list. IsWithin (solvables_before origins bookmark.base kept) list in
      record {
        at_base = now;
        inside = subst Within (sym first.is)
            (subst WithinAll (sym bookmark.follows.is)
            (Extends-within (solvables_before origins bookmark.base kept) (solvables_before origins bookmark.base (length_of bookmark.base))
            (before_extends origins bookmark.base kept (length_of bookmark.base) places.were)));
        follows = follows kept now;
      }

  pub following : (old : Rounds N S) (kept from : ℕ) (cut new : Chosen S) (search : ClauseSearch) → IsConsistent search → IsUpToDate old → HasBookmark old →
      kept ≡ kept_of old.search →
      ((origins : List (Origin N S)) (trail : Trail) (count : ℕ) → Follows old.chosen origins trail count → kept ≤ count → Follows cut origins trail kept) →
      ((count : ℕ) → Follows cut (notes_of old).origins (trail_of old.search) count →
      Follows new (notes_of old).origins (trail_of old.search) (length_of (trail_of old.search))) →
      Extends (chosen_in cut) (chosen_in new) → from ≡ length (chosen_in cut) → KeepsLoaded old.search search → trail_of search ≡ trail_of old.search →
      KeepsPlaces (trail_of search) (trail_of search) (kept_of search) →
      IsFollowingFrom old (record old { chosen = new; search = search }) from
  following old kept from cut new search consistent up bookmark is cuts follows more count loaded same places =
      let origins : List (Origin N S) = (notes_of old).origins in
      let again = cut_again old kept cut new up bookmark is cuts follows in
      let FollowsOn : Trail → Type 0 = λ t. Follows new origins t (length_of t) in
      let taken : take from (chosen_in new) ≡ chosen_in cut = ap (λ n. take n (chosen_in new)) count ∙ ap (take (length (chosen_in cut))) more.is ∙
      take-append_seam (chosen_in cut) more.more in
      let longer : length (chosen_in new) ≡ length (chosen_in cut) + length more.more = ap length more.is ∙ length-append (chosen_in cut) more.more in
      let Within : List S → Type 0 = λ list. IsWithin list (chosen_of old) in
      let size : variable_count (trail_of search) ≡ length origins = ap variable_count same ∙ up.variables in
      record {
        encoding = refl;
        consistent = consistent;
        loaded = record { loaded = loaded (notes_of old).table (requirement_numbers (notes_of old).kinds) up.loaded; variables = size };
        bookmark = record { base = trail_of search; follows = subst FollowsOn (sym same) again.follows; kept = places; known = omega (arith, size) };
        within = omega (arith, count, longer);
        earlier = subst Within (sym taken) again.inside;
      }

  pub followed : (old : Rounds N S) (kept : ℕ) (cut new : Chosen S) (search : ClauseSearch) → IsUpToDate old → HasBookmark old → kept ≡ kept_of old.search →
      ((origins : List (Origin N S)) (trail : Trail) (count : ℕ) → Follows old.chosen origins trail count → kept ≤ count → Follows cut origins trail kept) →
      ((count : ℕ) → Follows cut (notes_of old).origins (trail_of old.search) count →
      Follows new (notes_of old).origins (trail_of old.search) (length_of (trail_of old.search))) →
      trail_of search ≡ trail_of old.search → clause_count_of search ≡ clause_count_of old.search → learnt_count_of search ≡ learnt_count_of old.search →
      KeepsTurn old.search search → kept_of search ≡ length_of (trail_of search) →
      HasFollowed old (record old { chosen = new; search = search })
  followed old kept cut new search up bookmark is cuts follows trail clauses learnt turn count = record {
    trail = trail;
    clauses = clauses;
    learnt = learnt;
    turn = turn;
    bookmarked = count;
    chosen = (cut_again old kept cut new up bookmark is cuts follows).follows.is;
  }

  -- notes that are read for the old list are read for the first elements of the new list
  pub read_first : (u : Universe N S) (root : Demands) (old new : Rounds N S) (from : ℕ) (keys : List S) → IsFollowingFrom old new from → keys ≡ chosen_of new →
      IsReadSoFar u root (chosen_of old) (notes_of old) → IsReadSoFar u root (take from keys) (notes_of new)
  read_first u root old new from keys following is h =
      let Encoded : Encoding N S → Type 0 = λ e. IsReadSoFar u root (chosen_of old) (notes_in e) in
      let Within : List S → Type 0 = λ list. IsWithin (take from list) (chosen_of old) in
      so_far_less u root (take from keys) (chosen_of old) (notes_of new) (subst Within (sym is) following.earlier) (subst Encoded (sym following.encoding) h)

  pub reading_first : (u : Universe N S) (old new : Rounds N S) (from : ℕ) (keys : List S) → IsFollowingFrom old new from → keys ≡ chosen_of new →
      IsReading u (chosen_of old) (notes_of old) → IsReading u (take from keys) (notes_of new)
  reading_first u old new from keys following is h = record { root = h.root; so_far = read_first u h.root old new from keys following is h.so_far }

  -- one more reading
  pub read_more : (u : Universe N S) (old mid : Rounds N S) (from : ℕ) (keys : List S) (encoding : Encoding N S) → AreRounds u old →
      IsFollowingFrom old mid from → keys ≡ chosen_of mid → IsReadMore u keys (notes_of mid) (notes_in encoding) →
      ((root : Demands) → IsReadSoFar u root (take from keys) (notes_of mid) → IsReadSoFar u root keys (notes_in encoding)) →
      IsTrueCache u (cache_in encoding) → AreRounds u (record mid { encoding = encoding })
  read_more u old mid from keys encoding rounds following is more reads answers =
      let ReadFor : List S → Type 0 = λ set. IsReadSoFar u rounds.reading.root set (notes_in encoding) in
      let longer : length (notes_of mid).origins ≤ length (notes_in encoding).origins =
      Keeps-longer (notes_of mid).origins (notes_in encoding).origins Root more.growth.origins in
      let bookmark : HasBookmark mid = following.bookmark in
      record {
        answers = answers;
        reading = record {
          root = rounds.reading.root;
          so_far = subst ReadFor is (reads rounds.reading.root (read_first u rounds.reading.root old mid from keys following is rounds.reading.so_far));
        };
        consistent = following.consistent;
        loaded = record {
          given = (notes_of mid).table;
          numbers = requirement_numbers (notes_of mid).kinds;
          loaded = following.loaded.loaded;
          clauses = more.growth.table;
          requiring = Extends-numbers (notes_of mid).kinds (notes_in encoding).kinds more.growth.numbered;
        };
        variables = omega (arith, longer, following.loaded.variables);
        bookmark = record {
          base = bookmark.base;
          follows = follows_still (notes_of mid).origins (notes_in encoding).origins bookmark.base bookmark.base (length_of bookmark.base)
              more.growth.origins bookmark.known (keeps_itself bookmark.base (length_of bookmark.base) (omega arith)) mid.chosen bookmark.follows;
          kept = bookmark.kept;
          known = omega (arith, bookmark.known, longer);
        };
      }

  pub keeps_more : (u : Universe N S) (old mid : Rounds N S) (from : ℕ) (keys : List S) (encoding : Encoding N S) → IsFollowingFrom old mid from →
      keys ≡ chosen_of mid →
      ((root : Demands) → IsReadSoFar u root (take from keys) (notes_of mid) → IsReadSoFar u root keys (notes_in encoding)) →
      KeepsRead u old (record mid { encoding = encoding })
  keeps_more u old mid from keys encoding following is reads = λ root h.
      let ReadFor : List S → Type 0 = λ set. IsReadSoFar u root set (notes_in encoding) in
      subst ReadFor is (reads root (read_first u root old mid from keys following is h))

  -- a search reads nothing
  pub keeps_searched : (u : Universe N S) (old mid new : Rounds N S) → IsSearchOf old mid → KeepsRead u mid new → KeepsRead u old new
  keeps_searched u old mid new same keeps = λ root h.
      let ChosenFor : Chosen S → Encoding N S → Type 0 = λ c e. IsReadSoFar u root (chosen_in c) (notes_in e) in
      let Encoded : Encoding N S → Type 0 = λ e. ChosenFor old.chosen e in
      let Chose : Chosen S → Type 0 = λ c. ChosenFor c mid.encoding in
      keeps root (subst Chose (sym same.chosen) (subst Encoded (sym same.encoding) h))

  pub keeps_trans : (u : Universe N S) (one two three : Rounds N S) → KeepsRead u one two → KeepsRead u two three → KeepsRead u one three
  keeps_trans u one two three first second = λ root h. second root (first root h)

  -- a round that begins with the same notes
  pub round_later : (u : Universe N S) (old mid new : Rounds N S) (round : Round) → notes_of mid ≡ notes_of old → IsRound u mid new round →
      IsRound u old new round
  round_later u old mid new (Last found) same is = is
  round_later u old mid new Fired same is =
      let FiredFrom : Notes N S → Type 0 = λ notes. ((notes_of new).read ≡ notes.read) × (left_count (notes_of new) < left_count notes) in
      subst FiredFrom same is
  round_later u old mid new Read same is = (omega (arith, is.0, ap (λ (notes : Notes N S). length notes.read) same), is.1)

  -- the limits stay, and the cached answers stay true
  pub room_trans : {u : Universe N S} (one two three : Rounds N S) → KeepsRoundLimits u one two → KeepsRoundLimits u two three → KeepsRoundLimits u one three
  room_trans one two three first second = record {
    variables = second.variables ∙ first.variables;
    kinds = second.kinds ∙ first.kinds;
    answers = λ known. second.answers (first.answers known);
    clauses = second.clauses ∙ first.clauses;
    learnt = second.learnt ∙ first.learnt;
  }

  pub room_same : {u : Universe N S} (r : Rounds N S) → KeepsRoundLimits u r r
  room_same r = record { variables = refl; kinds = refl; answers = λ known. known; clauses = refl; learnt = refl }

  pub room_of : {u : Universe N S} (old new : Rounds N S) → KeepsTrue u old.encoding new.encoding → new.clause_limit ≡ old.clause_limit →
      new.learnt_limit ≡ old.learnt_limit → KeepsRoundLimits u old new
  room_of old new kept clauses learnt =
      record { variables = kept.variables; kinds = kept.clauses; answers = kept.answers; clauses = clauses; learnt = learnt }
